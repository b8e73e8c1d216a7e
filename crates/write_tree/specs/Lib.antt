-- The counterexample's bytes, as they are written into a lent buffer.
-- What the code draws is the dressed pattern of `meaning`
pub mod Marks
pub mod Standing
pub mod Whole
-- and its bytes, as they are written
pub mod Front
pub mod Written
pub mod Laws
pub mod Tree
pub mod Labels
