pub mod Firing
pub mod Ranges
pub mod Finding
-- For the decider: an accepted profile and question may be searched
pub mod Accepted
