-- What the searching and the writing functions ask of accepted inputs, and one law for each return.
pub mod Remembered
pub mod Deciding
pub mod Upward
