pub mod Setups
pub mod Legs
pub mod Laws
pub mod Beginnings
