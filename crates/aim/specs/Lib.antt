pub mod Aim
pub mod Sights
