pub mod Decimals
pub mod Stored
pub mod Separators
