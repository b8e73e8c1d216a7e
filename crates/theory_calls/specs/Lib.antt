pub mod Small
pub mod Fitting
pub mod Reading
