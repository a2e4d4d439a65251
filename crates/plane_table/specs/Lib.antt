pub mod Tables
pub mod Faces
pub mod Joins
pub mod Cuts
pub mod Orders
