pub mod Taylor
pub mod Sums
pub mod Nested
pub mod Apart
pub mod Quotients
pub mod Exact
pub mod IntoGrains
pub mod OutOfGrains
