mod Limits
mod Standing
mod Picked
mod Counted
mod Leading
mod Reading
mod Beginning
pub mod Facts
