pub mod Reading
pub mod Printing
pub mod Order
pub mod Names
pub mod Lines
pub mod Passes
pub mod Pieces
pub mod Sizes
