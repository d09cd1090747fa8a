pub mod Index
pub mod Layout
pub mod Reading
pub mod Writing
pub mod Answer
