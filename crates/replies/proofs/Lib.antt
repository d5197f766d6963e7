-- The laws that the functions' proofs cite.
pub mod Putting
pub mod Settled
pub mod Tied
