mod Firsts
pub mod Facts
