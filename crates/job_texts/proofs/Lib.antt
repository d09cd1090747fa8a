mod Unique
mod Numerals
mod Lines
mod Parts
pub mod Ascii
pub mod Facts
mod Loses
