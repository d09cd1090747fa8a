mod Behind
mod Entries
mod OneByOne
mod Putting
