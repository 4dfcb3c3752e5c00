pub mod Sound
pub mod Handlers
