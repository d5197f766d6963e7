-- Laws on lists, counted loops and first-match tests, with no float in them.
pub mod Picks
pub mod Parts
pub mod Turns
pub mod Every
pub mod Refusals
pub mod Filling
pub mod Puts
pub mod Counts
pub mod Chains
