mod Each
pub mod Facts
