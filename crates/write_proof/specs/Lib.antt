-- The whole proof.
pub mod Derived
pub mod Sizes
pub mod Asks
pub mod Cited
pub mod Whole
pub mod Chained
