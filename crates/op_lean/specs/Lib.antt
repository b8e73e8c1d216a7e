-- One law for each `return` of the two operations, over what the code has found there.
pub mod Leaned
pub mod Returns
