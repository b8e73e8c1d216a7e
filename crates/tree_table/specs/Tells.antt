-- What the tests of a tree promise.
use Rattle.std.specs.Prelude.{◌≡◌, Bool, true, false}

-- The answer is true exactly when the statement holds
pub record Tells (P : Type 0) (r : Bool) : Type 0 where
  pub yes : r ≡ true → P
  pub no : r ≡ false → P → ⊥
