pub mod Contact
pub mod Step
