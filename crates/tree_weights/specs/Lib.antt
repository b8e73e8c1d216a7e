-- A weight for each node, such that value-equal nodes have equal weights.
pub mod Sums
pub mod Weights
