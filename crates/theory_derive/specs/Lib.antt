-- ARGUMENT 4 and 5: the steps on lines of symbols, and the proof that is written.
pub mod Sets
pub mod Firing
pub mod Written
pub mod Lines
pub mod Landing
pub mod Runs
pub mod Step
pub mod Branch
pub mod Follow
pub mod FollowBelow
pub mod Accept
pub mod Bytes
pub mod Steps
pub mod Lowest
pub mod Ranges
