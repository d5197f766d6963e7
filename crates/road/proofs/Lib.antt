pub mod Alone
pub mod Fallback
