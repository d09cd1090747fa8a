pub mod Apart
pub mod Splitting
pub mod Writing
