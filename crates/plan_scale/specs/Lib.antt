pub mod ScaleText
pub mod Fault
pub mod Said
pub mod Tasks
pub mod Requirements
pub mod Even
pub mod Answer
