pub mod Saved
pub mod Sound
pub mod Reached
pub mod Requirements
pub mod EntryTest
pub mod Answer
