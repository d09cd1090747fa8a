pub mod Words
pub mod PlacedRows
