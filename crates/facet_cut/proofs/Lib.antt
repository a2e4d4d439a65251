pub mod Examples
pub mod Reversals
pub mod Counts
pub mod Pieces
pub mod lemmas
pub mod Nodes
pub mod WholeLists
