-- What the reader of a tree says, and its laws.
pub mod Labels
pub mod Nodes
pub mod Walks
