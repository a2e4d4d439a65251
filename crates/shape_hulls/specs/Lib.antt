pub mod OwnHulls
pub mod Worked
