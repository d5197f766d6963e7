-- That the contracts of the exported calls determine their replies.
pub mod Determined
