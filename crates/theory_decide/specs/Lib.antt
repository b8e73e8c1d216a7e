pub mod Implied
pub mod NotImplied
pub mod Returns
