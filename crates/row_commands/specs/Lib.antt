pub mod Refusals
pub mod Telling
