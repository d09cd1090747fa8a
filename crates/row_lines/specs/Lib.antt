pub mod Text
pub mod Numbers
pub mod Rows
pub mod Lines
pub mod Sequences
