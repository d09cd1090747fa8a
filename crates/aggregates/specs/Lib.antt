pub mod Kinds
pub mod Inside
pub mod Fields
