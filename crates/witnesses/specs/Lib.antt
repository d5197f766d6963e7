pub mod Car
pub mod Calls
pub mod Carts
pub mod Sledge
pub mod Tractor
pub mod Stream
pub mod Oracle
pub mod Opened
