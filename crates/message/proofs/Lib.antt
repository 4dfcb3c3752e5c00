pub mod Texts
pub mod Allowed
pub mod Tables
pub mod FieldBytes
pub mod Cases
