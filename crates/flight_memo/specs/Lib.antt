-- Claims of missing keys.
pub mod Answers
pub mod Asking
pub mod Claims
pub mod Fields
pub mod Shares
