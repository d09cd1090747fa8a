mod Adding
mod Ended
mod Given
mod Refusals
mod Taken
mod Turned
mod Turns
mod UnderWay
pub mod Facts
