pub mod Repeats
pub mod Labels
pub mod Keys
pub mod Agree
