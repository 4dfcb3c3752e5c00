pub mod Steps
pub mod Records
pub mod Writes
pub mod Mends
pub mod MendedCaptures
pub mod Written
pub mod Cases
