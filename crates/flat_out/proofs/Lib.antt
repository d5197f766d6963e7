-- The laws that the proofs of the results, and of the exported calls, cite.
pub mod Ending
pub mod Sights
