pub mod Marked
pub mod Numbering
