mod Rows
pub mod lemmas
pub mod Turns
pub mod Sectors
pub mod Multiples
pub mod Edges
pub mod Slides
pub mod Covers
pub mod Walks
pub mod Shares
