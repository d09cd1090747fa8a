pub mod Facts
mod Rows
mod Pairs
mod Sources
mod Replaced
mod OrderedMembers
mod UnknownNames
mod NotedMembers
mod NotedTexts
mod Notings
mod LateEntries
mod EntryNotings
mod Saturated
mod SourceNotings
mod FirstFaults
