-- What the loops keep, and a law for each turn and each return.
pub mod Choosing
pub mod Dropping
