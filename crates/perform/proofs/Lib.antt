-- The laws that the functions' proofs cite.
pub mod Told
pub mod Fronts
