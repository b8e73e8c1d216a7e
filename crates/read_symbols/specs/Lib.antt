-- What is read of a path's text, and its laws.
pub mod Outcomes
pub mod Splitting
pub mod Symbols
pub mod Scanning
