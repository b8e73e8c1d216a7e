-- Child links and families in place in the rows of a tree.
pub mod Leaders
pub mod Lowest
pub mod InRows
