mod Filled
mod Windows
mod Ranges
mod Owned
mod Spelled
mod Partitions
mod RecordLength
mod Whole
mod Spread
pub mod Facts
