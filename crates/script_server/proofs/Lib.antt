pub mod OneSource
pub mod OneReply
pub mod Refusing
pub mod Books
mod Asked
mod Kept
pub mod SomeReply
pub mod Sums
pub mod Told
mod Rows
mod Refused
mod Answered
mod Probed
mod Parts
mod WholeOutput
