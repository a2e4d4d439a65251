pub mod lemmas
pub mod SamePoints
pub mod CopiedNodes
pub mod PassedRanges
pub mod Apart
pub mod Ways
mod Examples
