-- Laws on one number, and on its outcome.
pub mod Groups
pub mod Outcome
