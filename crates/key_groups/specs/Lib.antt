pub mod Groups
pub mod Laws
pub mod Ranges
