pub mod Frames
pub mod Reading
pub mod Writing
