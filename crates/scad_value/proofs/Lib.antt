pub mod lemmas
pub mod Integers
pub mod Bounded
