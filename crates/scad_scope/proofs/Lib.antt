pub mod Envs
pub mod Bound
pub mod Numbered
pub mod lemmas
pub mod Bindings
