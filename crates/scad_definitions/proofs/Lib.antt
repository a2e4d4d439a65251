pub mod Places
mod Updates
pub mod Scans
pub mod Walks
pub mod Held
pub mod Placed
pub mod Order
pub mod Begun
pub mod lemmas
pub mod Looking
pub mod Expected
pub mod Named
