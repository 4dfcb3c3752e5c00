pub mod Capture
pub mod Recorded
pub mod Reading
pub mod Writing
pub mod Mending
pub mod Mended
pub mod Written
pub mod Cases
