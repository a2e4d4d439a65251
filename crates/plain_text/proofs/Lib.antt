pub mod lemmas
mod Examples
