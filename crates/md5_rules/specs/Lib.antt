pub mod Md5
pub mod Stream
pub mod Inner
pub mod Cases
