pub mod Values
pub mod Notes
