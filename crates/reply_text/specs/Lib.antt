pub mod Texts
pub mod Answers
pub mod Parts
pub mod Sums
