pub mod Answers
pub mod Receipts
pub mod Runs
