pub mod Layout
pub mod Number
