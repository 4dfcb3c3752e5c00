pub mod Stretches
pub mod Steps
pub mod Runs
pub mod Accounts
pub mod Cases
