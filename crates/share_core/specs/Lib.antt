pub mod Views
pub mod KeptNodes
pub mod Fields
pub mod Steps
pub mod Runs
