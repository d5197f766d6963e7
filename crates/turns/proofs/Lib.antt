-- Laws on one code that is taken.
pub mod Lent
pub mod Calls
pub mod Counts
pub mod Taken
