pub mod Names
pub mod Rows
pub mod Table
pub mod View
pub mod Known
pub mod Numbered
