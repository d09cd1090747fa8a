pub mod Slices
pub mod Laws
pub mod KeySlices
pub mod Spans
