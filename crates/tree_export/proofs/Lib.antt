pub mod LastNode
pub mod FirstPassed
pub mod OneExport
pub mod SomeExport
pub mod SmallLeaves
pub mod Solids
pub mod WorkedBox
