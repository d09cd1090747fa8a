pub mod Facts
mod Zipped
