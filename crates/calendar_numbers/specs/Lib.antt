pub mod Calendars
pub mod Named
