pub mod Hulls
pub mod Verdicts
pub mod Bodies
pub mod Loops
pub mod Meaning
pub mod Sources
