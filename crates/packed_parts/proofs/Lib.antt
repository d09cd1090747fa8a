mod Sound
pub mod Places
