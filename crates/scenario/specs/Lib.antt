pub mod Format
pub mod Layout
pub mod Decode
pub mod Results
