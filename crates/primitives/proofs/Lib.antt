pub mod lemmas
mod NoneAhead
pub mod Placed
pub mod Stops
pub mod Triangles
pub mod Steps
pub mod Searches
pub mod Rounds
pub mod Sets
pub mod PolyhedronGrids
pub mod FirstFaults
