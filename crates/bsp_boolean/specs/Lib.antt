pub mod Merges
pub mod Branches
pub mod Solids
pub mod TreeSolids
pub mod Combined
pub mod Chains
pub mod LeafSolids
pub mod UprightBoxes
