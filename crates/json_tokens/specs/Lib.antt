pub mod Ahead
pub mod Lexemes
pub mod Rows
pub mod Passed
