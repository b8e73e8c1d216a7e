-- Small facts on truth values, on lists and on the order of paths, of which every other theory makes use.
pub mod Bools
pub mod Lists
pub mod Logic
pub mod Order
