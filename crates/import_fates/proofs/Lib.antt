pub mod Behind
pub mod Totals
