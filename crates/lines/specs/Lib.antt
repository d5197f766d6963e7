pub mod Layout
pub mod Line
