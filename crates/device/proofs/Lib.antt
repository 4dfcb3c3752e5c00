pub mod Says
pub mod Read
pub mod Storing
pub mod Stated
pub mod Kept
