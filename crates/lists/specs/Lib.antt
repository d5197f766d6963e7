pub mod Pick
pub mod Part
pub mod Counted
pub mod All
pub mod Refusal
pub mod Puts
