pub mod Line
pub mod Transcript
pub mod Items
