pub mod Standing
pub mod Pointing
