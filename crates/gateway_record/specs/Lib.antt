pub mod Record
pub mod Phases
pub mod Cases
