-- The laws that callers of the tests cite.
pub mod Says
pub mod Settled
pub mod Lent
