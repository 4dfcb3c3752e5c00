pub mod Line
pub mod Decode
pub mod Cases
