pub mod Format
pub mod Lists
pub mod Fields
pub mod Reads
