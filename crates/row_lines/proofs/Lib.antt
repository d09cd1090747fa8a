pub mod Parses
pub mod Sizes
pub mod Fronts
pub mod Parts
pub mod Numbers
pub mod Texts
pub mod Places
pub mod Feeds
mod Sorts
