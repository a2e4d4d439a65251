mod Assignments
pub mod lemmas
pub mod ExpressionPlaces
mod HullRows
mod HullVerdicts
mod OneMeaning
mod Parts
mod ProperMeanings
mod Rows
mod SomeMeaning
mod Triangles
