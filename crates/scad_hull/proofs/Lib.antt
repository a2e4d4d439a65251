pub mod lemmas
pub mod Supports
pub mod Tests
pub mod Supporting
pub mod Solids
pub mod Found
pub mod Orders
pub mod Ordered
mod Rows
pub mod Surrounded
pub mod PlaneRows
