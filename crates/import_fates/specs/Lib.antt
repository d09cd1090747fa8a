pub mod Counts
pub mod Fates
