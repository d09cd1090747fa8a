pub mod InputTexts
pub mod PartTexts
pub mod Streams
