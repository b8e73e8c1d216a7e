pub mod Unique
pub mod Refusing
pub mod FromProof
