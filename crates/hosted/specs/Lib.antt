pub mod Hosts
pub mod Hosted
pub mod Witnesses
