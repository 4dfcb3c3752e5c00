pub mod Choice
pub mod Bytes
pub mod Cases
pub mod Numbers
pub mod Refusals
pub mod Stretch
