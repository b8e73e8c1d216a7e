-- ARGUMENT §6: the tree of 01's "The counterexample that is written" keeps the profile and breaks the question.
-- First any doubled tree, by laws alone; then the pattern; then the written list of nodes, which is the pattern doubled; last the theorem.

-- A doubled tree: what it is, reach in it, its value-equal nodes; a witness against a key is a step across the cut, and back
pub mod Doubled
pub mod Climb
pub mod Twins
pub mod Ending
pub mod Crossing
pub mod Ranges
pub mod Copies
pub mod Breaking
-- The pattern as a list of nodes: runs, branches, labels, marks; no step leads up into the trunk
pub mod PatternLaws
pub mod PatternTree
pub mod Singles
pub mod Leading
-- The written nodes: where each stands, and what its record says
pub mod Places
pub mod Doubling
pub mod Flattened
pub mod Dressing
pub mod WrittenLaws
pub mod WrittenTable
-- The theorem, the size, the file
pub mod Counterexample
pub mod Size
pub mod WrittenFile
