-- Paths put into record order in a buffer.
pub mod Places
pub mod Inserts
