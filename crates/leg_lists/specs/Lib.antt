pub mod Fault
pub mod LegsText
pub mod ChoicesText
pub mod Said
pub mod Answer
