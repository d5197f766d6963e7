-- What the proofs of `root` use: lemmas on plain numbers, and on bit patterns.
mod Turns
mod Patterns
mod Rounding
mod Cases
