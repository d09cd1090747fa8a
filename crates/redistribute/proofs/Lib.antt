mod Unread
mod Reached
mod Dealt
mod Found
mod Grouped
mod Owned
mod Beginning
mod Opened
mod Rising
pub mod Facts
