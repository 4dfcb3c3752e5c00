pub mod Alike
pub mod Choosing
pub mod Lists
pub mod Refused
