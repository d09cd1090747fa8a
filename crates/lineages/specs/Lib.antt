pub mod Lineage
pub mod Calls
pub mod Changes
pub mod Dealing
pub mod Steps
