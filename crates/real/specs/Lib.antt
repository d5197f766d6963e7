pub mod Number
pub mod Units
pub mod Root
pub mod Scalar
