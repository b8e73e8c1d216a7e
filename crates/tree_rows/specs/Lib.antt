-- The rows of a tree, and lists by owner.
pub mod Families
pub mod Chain
pub mod Prepared
pub mod Indexed
pub mod Hung
