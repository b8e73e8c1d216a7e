-- A law for each return of the writer of proof lines, and that its answer is one
pub mod Writing
pub mod One
