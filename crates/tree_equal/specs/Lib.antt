-- Equality of nodes whose children have their families.
pub mod Lists
pub mod Nodes
pub mod Pairing
pub mod Known
pub mod Marks
