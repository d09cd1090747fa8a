pub mod Packing
pub mod PackingView
