pub mod Climbing
pub mod TokenClasses
pub mod Views
