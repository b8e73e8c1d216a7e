-- What the salvage of a tree file says, and its laws.
pub mod Moved
pub mod Loop
pub mod Salvaging
pub mod Ends
pub mod Told
