pub mod Dates
pub mod Decimals
pub mod Cells
