pub mod Saved
pub mod Parts
pub mod Buckets
pub mod Sources
pub mod Laws
