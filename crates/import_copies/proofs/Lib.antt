pub mod AtPlace
pub mod Each
pub mod Keys
pub mod Putting
pub mod Sorting
pub mod Writing
