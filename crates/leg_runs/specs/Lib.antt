pub mod Choosing
pub mod Laws
pub mod Order
pub mod Running
