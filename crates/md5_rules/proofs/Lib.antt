pub mod Feeding
pub mod Closing
pub mod Cases
