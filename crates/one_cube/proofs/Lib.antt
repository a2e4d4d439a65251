pub mod Words
pub mod Tokens
pub mod Checks
pub mod Means
