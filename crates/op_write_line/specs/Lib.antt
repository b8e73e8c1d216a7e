pub mod Writing
pub mod OneLine
