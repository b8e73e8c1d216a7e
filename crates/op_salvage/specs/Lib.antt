-- One law for each `return` of the salvage, and one answer.
pub mod Salvaged
pub mod One
