mod Marks
mod Kept
mod Timely
mod Own
mod All
