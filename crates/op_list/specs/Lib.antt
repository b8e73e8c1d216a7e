-- Laws of the operation over the definitions, and one for each `return` over what the code has found there
pub mod Listings
pub mod Listed
pub mod One
