pub mod lemmas
pub mod Meetings
mod Rows
pub mod Places
pub mod Spots
