pub mod Beginning
pub mod Leaving
pub mod Saved
