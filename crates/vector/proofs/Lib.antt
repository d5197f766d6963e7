-- The laws that proofs over the vectors cite.
pub mod Fallback
