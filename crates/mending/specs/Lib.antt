pub mod Account
pub mod Answers
pub mod Inner
pub mod Cases
