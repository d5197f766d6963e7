pub mod Layout
pub mod Program
pub mod Start
pub mod Runs
pub mod Served
