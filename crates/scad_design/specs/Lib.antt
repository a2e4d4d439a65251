pub mod Designs
pub mod View
pub mod Placing
pub mod Trees
