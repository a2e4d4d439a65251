-- How large the solid of a leaf can be, with its facets and their vertices.
pub mod Edges
pub mod Doubling
pub mod Chains
pub mod Sizes
pub mod Vertices
