pub mod CutLaws
pub mod CommandWords
pub mod KnownCommands
pub mod Places
pub mod LineRead
pub mod Grouping
pub mod Told
pub mod OneLine
pub mod OneScript
pub mod WithinLimits
mod Rows
