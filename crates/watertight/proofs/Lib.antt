mod Rows
pub mod Lists
pub mod Ways
pub mod lemmas
pub mod Halves
pub mod General
pub mod Strict
