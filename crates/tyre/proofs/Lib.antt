pub mod Demand3
pub mod MoreBrake
pub mod Brake
pub mod Idle
pub mod GripCircle
pub mod Chain
pub mod Ranges
