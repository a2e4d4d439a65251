pub mod Exchanges
pub mod Merged
pub mod lemmas
mod Examples
pub mod TreeSolids
pub mod Combined
pub mod LeafSolids
pub mod Convex
pub mod FaceChains
pub mod Rectangles
pub mod BoxRows
pub mod BoxLeaves
pub mod BoxPairs
