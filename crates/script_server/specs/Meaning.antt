-- What the program promises, in words that name no code of its own.
pub mod Sources
pub mod Exports
