mod Beginnings
pub mod Runnings
pub mod Lists
pub mod Numbered
pub mod Sent
pub mod Counts
pub mod Standing
pub mod Marks
pub mod Readings
pub mod Barriers
pub mod Over
mod KeptRows
mod Keeping
mod Going
mod Shutting
pub mod Facts
