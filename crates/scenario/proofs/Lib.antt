-- The laws that the functions' proofs cite.
pub mod Patterns
pub mod Words
pub mod Tied
