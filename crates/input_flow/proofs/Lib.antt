mod Orderly
mod Places
mod Records
mod Marks
mod Cuts
pub mod Facts
