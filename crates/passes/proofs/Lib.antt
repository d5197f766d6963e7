-- The laws that proofs over the passes cite.
pub mod Laws
pub mod OneWheel
pub mod Gives
