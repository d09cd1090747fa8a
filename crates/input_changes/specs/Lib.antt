pub mod Agreement
pub mod Laws
