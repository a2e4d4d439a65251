pub mod Lines
pub mod Spelling
pub mod Scripts
pub mod Reading
pub mod Limits
pub mod FaultLines
