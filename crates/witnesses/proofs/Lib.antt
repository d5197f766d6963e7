pub mod Told
pub mod Drives
pub mod Refused
pub mod Applied
pub mod Rolls
pub mod Carts
pub mod Sledge
pub mod Tractor
