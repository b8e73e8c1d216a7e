-- Sets of key paths in a buffer.
pub mod Encoded
pub mod Places
pub mod Inserts
pub mod Unions
pub mod Fronts
