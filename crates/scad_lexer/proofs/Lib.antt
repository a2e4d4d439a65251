mod EndsOnce
mod FaultPlaces
mod Rows
pub mod Lexing
mod Lengths
mod Matched
pub mod Longest
pub mod Meanings
pub mod Scanned
mod SomeOutcome
