pub mod Exponents
pub mod Exact
pub mod Points
pub mod Products
