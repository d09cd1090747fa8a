mod Rows
mod Shape
mod LayoutLaws
mod Partitions
mod Shapes
mod Once
mod Groups
mod Counted
mod FiveStages
mod Legs
mod Outputs
pub mod Facts
