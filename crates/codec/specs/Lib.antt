pub mod Codec
pub mod Answers
