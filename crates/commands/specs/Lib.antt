pub mod Answers
pub mod Checking
pub mod Importing
pub mod Outcome
pub mod Running
pub mod Status
pub mod Tables
