pub mod Exports
pub mod Worked
