-- ARGUMENT 2: trees as tables, reach, and the laws of value equality.
pub mod Below
pub mod Children
pub mod Matching
pub mod Counting
pub mod Laws
pub mod Climb
pub mod Reach
pub mod Sameness
pub mod Breaking
pub mod Agreeing
pub mod Order
pub mod Witness
pub mod Existence
