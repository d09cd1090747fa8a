mod Totals
mod Pendings
mod Tests
mod Shutting
pub mod Facts
