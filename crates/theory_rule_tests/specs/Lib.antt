pub mod Beginnings
pub mod SameParts
pub mod Subnodes
pub mod Interactions
pub mod Cuts
pub mod LineTest
pub mod EditionTest
