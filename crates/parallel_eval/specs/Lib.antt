-- The solids of a store, whose nodes are divided among builders.
pub mod Runs
-- The solid of a join, by a memo that threads share.
pub mod Joins
-- What is known of the trees of a store.
pub mod Known
