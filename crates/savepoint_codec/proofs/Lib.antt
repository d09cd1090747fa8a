mod EntriesFacts
mod EntryFacts
mod LayoutExact
mod NumbersFacts
mod Spelled
pub mod Facts
