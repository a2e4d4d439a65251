mod Parsed
pub mod Whole
mod Refusing
