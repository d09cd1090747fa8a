mod Cuts
mod Records
mod Uids
mod Left
mod Grouped
mod Spread
mod Passing
mod Ascending
mod Accepted
mod Restarting
mod Checked
mod Numbers
mod Few
mod Savepoints
pub mod Facts
