-- What the search for steps answers, as a law of implication, and the turns from the last key to the first.
pub mod Searching
pub mod Turning
