pub mod Maps
pub mod Ranges
pub mod Cases
