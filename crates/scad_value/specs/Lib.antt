pub mod Values
pub mod Operators
pub mod View
pub mod Rows
pub mod BoundedView
pub mod Answers
pub mod AnswerView
