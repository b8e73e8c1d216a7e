pub mod Following
pub mod Checking
