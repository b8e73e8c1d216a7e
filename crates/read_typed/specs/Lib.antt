-- What is read of a set's text and of a line, and its laws.
pub mod Texts
pub mod Gathering
