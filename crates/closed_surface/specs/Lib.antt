pub mod Ways
pub mod Closed
pub mod Around
pub mod Printing
pub mod Edges
pub mod Near
