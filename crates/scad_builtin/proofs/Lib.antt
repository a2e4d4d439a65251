pub mod ArgumentLists
pub mod Powers
pub mod Bounds
pub mod Rows
