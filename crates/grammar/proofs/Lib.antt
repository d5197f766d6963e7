-- Laws on the places of a code.
pub mod Places
