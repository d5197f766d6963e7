pub mod Reading
pub mod Writing
pub mod Turning
pub mod Progress
pub mod Serves
