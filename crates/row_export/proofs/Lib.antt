pub mod Members
pub mod Plain
pub mod Records
pub mod Rows
pub mod Tables
