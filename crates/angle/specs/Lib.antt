pub mod Angle
pub mod Taylor
