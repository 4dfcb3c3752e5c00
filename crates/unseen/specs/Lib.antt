pub mod Neighbours
pub mod Unseen
