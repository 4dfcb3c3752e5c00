pub mod RoundTrip
pub mod Published
pub mod Demand2
pub mod WrittenRead
