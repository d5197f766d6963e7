-- The laws that the proofs of a drive, and its callers, cite.
pub mod Accepted
pub mod Tries
