-- Work on two lists, place by place.
pub mod Pairs
