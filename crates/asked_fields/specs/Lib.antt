pub mod Asked
pub mod Joined
