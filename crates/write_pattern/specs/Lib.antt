-- The dressed pattern as the code draws it, node after node.
pub mod Sketch
pub mod Entries
pub mod Runs
pub mod DrawnParts
