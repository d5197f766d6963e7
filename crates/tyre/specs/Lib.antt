pub mod Suspension
pub mod Demand
pub mod Grip
pub mod Demand3
pub mod MoreBrake
