pub mod Builtins
pub mod Rows
