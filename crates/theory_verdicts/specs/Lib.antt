-- 001, Theorems 1 and 2: a question is implied exactly when the steps lead from t to q, exactly when it is derivable. So each row of the bench
-- examples says the truth about all trees.
pub mod Ending
pub mod Exactly
pub mod Table
pub mod Demand
