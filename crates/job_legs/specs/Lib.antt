pub mod Laws
pub mod Reached
pub mod Ways
pub mod Turns
pub mod Running
pub mod Ending
