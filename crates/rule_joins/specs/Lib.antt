-- What the contracts of this crate cite beside `meaning`, and the laws that prove them: one law for each return.
pub mod Forms
pub mod Both
pub mod Joins
