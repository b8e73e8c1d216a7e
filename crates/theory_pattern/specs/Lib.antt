-- The pattern of the asked key, once for both verdicts (ARGUMENT §4): its rows of symbols, and its nodes by number.
-- Rows, spots and their nodes
pub mod Spots
pub mod RowParts
pub mod Rows
pub mod Numbers
pub mod Places
pub mod Marks
-- Single labels stand once under a node
pub mod Singles
pub mod PatternOnce
-- The same nodes as a list: runs, branches, labels
pub mod Numbered
pub mod Branches
pub mod Drawing
