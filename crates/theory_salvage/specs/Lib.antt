-- Salvage: what comes out is a tree file, what is kept and what is dropped, and one answer.
pub mod Slots
pub mod Salvages
pub mod Rootless
pub mod Kept
pub mod Exact
pub mod Windows
pub mod Listed
