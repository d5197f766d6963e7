-- The laws that callers of the tests cite.
pub mod Accepted
pub mod Joined
