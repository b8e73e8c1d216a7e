-- The table that an accepted tree's bytes say, and child links over it.
pub mod FileTable
pub mod Files
pub mod Tells
pub mod Links
pub mod LinkedTree
pub mod Rest
pub mod Seek
pub mod Zeros
