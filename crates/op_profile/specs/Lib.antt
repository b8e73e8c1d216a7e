-- Laws of each operation over the definitions
pub mod Fronts
pub mod Paths
pub mod Judging
pub mod Profiles
pub mod Inclusions
-- One law for each `return` of an operation, over what the code has found there.
pub mod Returns
pub mod One
