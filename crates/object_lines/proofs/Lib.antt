pub mod Marks
pub mod Nexts
pub mod Paths
pub mod Splits
pub mod Texts
pub mod Values
