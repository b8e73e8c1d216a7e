pub mod Marks
pub mod Segments
pub mod Reporting
pub mod One
