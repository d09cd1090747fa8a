pub mod Numbers
mod Placed
mod Columns
