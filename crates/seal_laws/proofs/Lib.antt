mod Logs
mod Tasks
mod Histories
pub mod Facts
