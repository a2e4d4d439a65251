pub mod Keeping
pub mod Variables
pub mod Within
pub mod Programs
