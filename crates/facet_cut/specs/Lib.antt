pub mod Facets
pub mod Sides
pub mod Adding
pub mod Between
