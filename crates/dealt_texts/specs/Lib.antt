pub mod Dealing
pub mod Entries
pub mod Parts
pub mod Steps
pub mod Texts
