pub mod ShapeHulls
pub mod PlacedHulls
pub mod Programs
mod Bounds
mod ChosenSizes
mod Costs
mod Examples
mod ExpressionCosts
mod InstanceCosts
mod Payments
mod Runs
mod Scopes
mod TextSizes
mod WrittenSizes
