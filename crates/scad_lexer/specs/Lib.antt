pub mod Scanning
pub mod Tokens
pub mod Words
