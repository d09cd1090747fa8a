pub mod Faults
pub mod Objects
pub mod Records
pub mod Shown
pub mod Titles
