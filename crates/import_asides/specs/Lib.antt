pub mod Apart
pub mod Bad
pub mod Naming
pub mod Written
