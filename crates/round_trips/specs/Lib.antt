pub mod Published
pub mod Demand2
