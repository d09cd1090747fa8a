mod Passing
mod Refusing
mod Firsts
