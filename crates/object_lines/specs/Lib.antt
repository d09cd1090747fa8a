pub mod Lines
pub mod Members
pub mod Records
pub mod Steps
