pub mod Premises
pub mod ProofLines
