pub mod Columns
pub mod Placed
pub mod Values
