pub mod Extents
pub mod Laws
pub mod Times
pub mod Words
