pub mod Sessions
pub mod Limits
pub mod Asking
