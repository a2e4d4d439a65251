-- The memo behind a lock.
pub mod Shares
pub mod Tallies
pub mod Allowed
