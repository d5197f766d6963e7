pub mod Car
pub mod Turns
