-- Laws for the leaf readers: each turns the tests of the code into an equation with a definition of `meaning`.
pub mod Scans
pub mod Fields
pub mod Names
pub mod BodyParts
pub mod Bodies
pub mod Classes
pub mod ClassTests
pub mod Tables
pub mod KeyPaths
pub mod PathBytes
pub mod Hunts
pub mod Library
pub mod Steps
pub mod Seen
