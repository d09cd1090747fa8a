mod Sound
mod Counts
mod Folded
mod Windows
mod Shape
mod Few
mod Starts
pub mod Facts
