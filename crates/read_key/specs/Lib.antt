-- Laws for the tests of a key: each turns the tests of the code into an equation with a definition of `meaning`.
pub mod Symbols
pub mod Order
pub mod Validity
pub mod Refusing
