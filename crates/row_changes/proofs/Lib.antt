pub mod Beside
pub mod Merges
pub mod Passing
