-- A line cut at its marks, and its laws.
pub mod Cutting
