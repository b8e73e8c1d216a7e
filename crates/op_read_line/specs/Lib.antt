-- Laws of the operation over the definitions, one for each `return` over what the code has found there
pub mod Reading
pub mod One
