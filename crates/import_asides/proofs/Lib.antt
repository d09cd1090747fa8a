pub mod Firsts
pub mod Numbered
pub mod Steps
