pub mod Lists
pub mod Settled
pub mod Nodes
pub mod KeptLists
pub mod Sound
pub mod Clients
pub mod Whole
mod Rows
