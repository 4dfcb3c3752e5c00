pub mod Figures
pub mod Runs
pub mod Bounds
pub mod Replays
