-- The first witness: the first node of each family below the larger target, and the first pair of each key path.
pub mod Firsts
pub mod Pairs
