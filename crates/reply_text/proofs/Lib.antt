pub mod OneAnswer
pub mod OneOutput
mod Rows
