-- What the writers of a proof line write.
pub mod Normals
pub mod LineParts
