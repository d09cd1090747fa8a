mod Files
mod Given
mod Named
pub mod Facts
