pub mod Digits
pub mod Decimals
pub mod Clocks
pub mod Instants
