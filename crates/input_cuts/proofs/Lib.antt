pub mod Cuts
pub mod First
