pub mod Steps
pub mod Serving
pub mod Moves
pub mod Asking
