pub mod Counting
pub mod Numbers
pub mod Reports
pub mod Tallies
pub mod Listings
