pub mod Package
pub mod Records
pub mod Cases
