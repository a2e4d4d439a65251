pub mod lemmas
pub mod Holding
mod Rows
pub mod Environments
pub mod Growth
pub mod Binding
pub mod Again
pub mod Chains
pub mod Standing
pub mod Bodies
pub mod Calls
pub mod Steps
pub mod SmallNumbers
pub mod Forms
mod FilledAlike
mod Valued
