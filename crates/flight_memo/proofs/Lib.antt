pub mod Items
pub mod Legal
pub mod Logs
pub mod Opened
mod Rows
