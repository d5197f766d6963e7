pub mod Numbers
pub mod Cases
pub mod Finer
