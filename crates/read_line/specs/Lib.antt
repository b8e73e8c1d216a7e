-- What is read of a whole line, and its laws.
pub mod Known
pub mod Told
