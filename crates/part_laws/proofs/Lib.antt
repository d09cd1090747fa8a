mod Reading
mod Merged
