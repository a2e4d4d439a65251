pub mod Lines
mod OneEnding
mod ReadLimits
pub mod Sent
pub mod Printed
