pub mod Names
pub mod Texts
pub mod Labels
pub mod Looking
pub mod Rows
pub mod Symbols
pub mod Lines
