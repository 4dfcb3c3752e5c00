pub mod Limits
pub mod Version
pub mod Recognition
pub mod Messages
pub mod Enums
pub mod Cases
