-- The laws that proofs over the table cite.
pub mod Laws
pub mod Within
pub mod Writes
