pub mod EntryTexts
pub mod Partitions
