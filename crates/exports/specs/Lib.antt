pub mod Exports
pub mod Captures
pub mod Digests
pub mod Boundary
