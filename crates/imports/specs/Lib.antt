pub mod Faults
pub mod Picks
pub mod Placing
pub mod Reading
pub mod Rows
pub mod Separators
