-- The lines of the broken keys, key by key.
pub mod Broken
