pub mod Decisions
pub mod DecisionCases
pub mod Rules
pub mod Answers
pub mod Cases
pub mod RefusedStart
pub mod Leading
