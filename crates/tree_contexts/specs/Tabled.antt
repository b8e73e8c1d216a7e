-- A table of 4,096 numbers of which the first are right.
use Rattle.std.specs.Prelude.{ℕ, ◌<◌, ◌≡◌, List, length, get_or}

-- What stands at each of the first nodes is right
pub record Tabled (Right : ℕ → ℕ → Type 0) (table : List ℕ) (count : ℕ) : Type 0 where
  pub long : length table ≡ 4096
  pub each : (v : ℕ) → v < count → Right v (get_or table v 0)
