pub mod Layout
pub mod Ends
pub mod Results
