mod Books
mod Dealt
mod Divided
mod Laned
mod Running
mod Steps
mod Worked
mod Knowing
pub mod Shared
