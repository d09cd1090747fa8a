pub mod Facts
mod Made
