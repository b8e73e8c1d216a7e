-- The listing's lines, as they are written into a lent buffer.
pub mod Decimal
pub mod Lines
pub mod Blocks
pub mod Writing
