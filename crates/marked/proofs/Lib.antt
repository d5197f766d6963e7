pub mod Marked
pub mod Witnesses
pub mod FinerBound
