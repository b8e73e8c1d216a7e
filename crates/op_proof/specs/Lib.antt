-- One law for each `return` of the operation, over what the code has found there.
pub mod Returns
pub mod One
pub mod Taking
