pub mod Units
pub mod Local
