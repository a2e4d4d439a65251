mod Atoms
mod Climbs
pub mod lemmas
mod Levels
