-- The laws that proofs over the records cite.
pub mod Each
pub mod Gathers
