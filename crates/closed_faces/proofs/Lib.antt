pub mod lemmas
pub mod Coplanar
pub mod Inside
pub mod Windings
pub mod Borders
pub mod Rows
