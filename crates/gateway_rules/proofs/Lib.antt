pub mod RefusedStart
pub mod Views
pub mod Answered
pub mod Cases
pub mod Served
pub mod DecisionCases
pub mod Leading
