pub mod Sound
pub mod Left
pub mod Handlers
