-- The block of a salvage listing: one law for each return, and one answer.
pub mod Listing
pub mod One
