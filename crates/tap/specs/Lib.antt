-- The three calls: the fields of their 16 bytes, one law for each `return`, and that a call's outcome is fixed.
pub mod Fields
pub mod Told
pub mod Unique
