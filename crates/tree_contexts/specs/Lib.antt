-- Numbers handed down in place, the highest context of each node, and contexts as what the root alone hands down.
pub mod Above
pub mod Tabled
pub mod Least
pub mod Tops
pub mod Turned
pub mod Rooted
