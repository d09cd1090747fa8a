pub mod Record
pub mod Times
