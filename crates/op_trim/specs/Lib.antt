pub mod Returns
pub mod One
