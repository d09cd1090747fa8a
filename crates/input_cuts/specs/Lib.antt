pub mod Cuts
pub mod Extents
pub mod Laws
