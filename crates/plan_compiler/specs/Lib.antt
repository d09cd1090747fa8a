pub mod Compiling
pub mod LayoutData
pub mod Tables
