pub mod Compare
pub mod SetBytes
pub mod Walks
pub mod RuleLaws
