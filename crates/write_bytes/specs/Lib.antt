-- What every function that fills a lent buffer says of it.
pub mod Wrote
