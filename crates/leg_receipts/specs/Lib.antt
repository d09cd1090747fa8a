pub mod Made
pub mod Places
pub mod Since
