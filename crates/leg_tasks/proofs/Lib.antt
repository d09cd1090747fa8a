mod Snapshot
mod OneOfACut
mod Saving
mod Known
mod Suiting
mod Starting
pub mod Facts
