-- The laws that the proofs of the lists, and their callers, cite.
pub mod Fitting
