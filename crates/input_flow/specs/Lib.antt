pub mod InputEntries
pub mod Laws
