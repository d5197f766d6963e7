pub mod Parts
pub mod Steering
pub mod Ray
