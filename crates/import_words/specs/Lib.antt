pub mod Codes
pub mod Files
pub mod Judging
pub mod Status
pub mod Words
