pub mod Record
pub mod Cases
pub mod Phases
pub mod Conditions
