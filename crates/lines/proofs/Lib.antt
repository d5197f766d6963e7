-- Laws on digits.
pub mod Digits
