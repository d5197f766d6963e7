-- The laws that the proofs of an aim, and its callers, cite.
pub mod Accepted
pub mod Aims
