pub mod Stops
pub mod Requirements
pub mod FaultLine
pub mod RestoreLine
