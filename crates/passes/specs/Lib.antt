pub mod Passes
pub mod Step
