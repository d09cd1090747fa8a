mod Commas
mod Steps
mod Unmarked
