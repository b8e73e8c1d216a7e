-- The refusal that each case of `Judged` stands for.
pub mod Answers
