pub mod Says
pub mod Totals
