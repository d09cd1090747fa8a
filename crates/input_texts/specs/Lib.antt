pub mod InputText
pub mod Said
pub mod Fault
pub mod Requirements
pub mod Answer
pub mod Seen
pub mod Document
pub mod FaultLine
