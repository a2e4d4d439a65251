pub mod Counts
pub mod ExprView
pub mod Names
pub mod Places
pub mod ProgramView
pub mod StatementView
pub mod Terms
