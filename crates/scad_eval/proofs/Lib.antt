mod Counting
mod Evaluating
mod Leaving
mod Membership
mod Outcomes
mod Told
mod Contexts
mod Beginning
mod Standing
mod Equations
mod Binding
mod ModuleScopes
mod Programs
mod Newest
mod Bounds
pub mod Lasting
pub mod Variables
pub mod Work
