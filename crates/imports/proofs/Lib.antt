pub mod Advances
pub mod Headers
pub mod Numbers
pub mod Readings
pub mod Stands
pub mod Texts
