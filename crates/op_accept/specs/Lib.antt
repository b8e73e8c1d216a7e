-- What the prologue answers, and its two laws for every operation: where it refuses, and where it passes on.
pub mod Taken
