-- Counts of faults, bytes that moved, and what sources and sinks are made of.
pub mod Counts
pub mod Moves
pub mod MemoryInput
pub mod MemoryOutput
pub mod Adapted
