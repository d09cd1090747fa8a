mod Ascending
mod RecordExact
mod Members
mod Placed
mod Named
mod InOrder
mod EqualBounds
mod EqualRecords
pub mod Facts
