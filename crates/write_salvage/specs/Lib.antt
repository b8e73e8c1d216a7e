-- The lines of a salvage listing, and a block filled with them as they come.
pub mod Lines
pub mod Blocks
