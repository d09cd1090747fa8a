pub mod Reading
pub mod Parting
