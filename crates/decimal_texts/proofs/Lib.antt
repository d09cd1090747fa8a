mod Quotients
pub mod Shifts
