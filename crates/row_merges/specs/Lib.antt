pub mod Merges
pub mod Refusals
