-- What the readers and the operations need to know of records: laws of the walk, round trips, and what acceptance says.
pub mod Walks
pub mod Tests
pub mod Bytes
pub mod Heads
pub mod KeyBodies
pub mod Encodings
pub mod HeadTests
pub mod Judged
pub mod Profiles
pub mod TreeFiles
pub mod Questions
pub mod Bodies
pub mod KeyPlaces
pub mod Places
pub mod Written
pub mod WrittenInputs
pub mod WrittenProfiles
