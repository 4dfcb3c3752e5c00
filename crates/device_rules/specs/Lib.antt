pub mod Decisions
pub mod DecisionCases
pub mod Rules
pub mod Answers
pub mod Inner
pub mod Cases
pub mod RefusedMaking
pub mod Leading
