-- ARGUMENT 3: each rule of inference is sound, tree by tree, and what an accepted proof shows is true of every tree.
pub mod Rules
pub mod Single
pub mod Accepted
