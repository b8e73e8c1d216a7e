-- Key paths in order: what the code's tests say, return by return.
use Rattle.std.specs.Prelude.{ℕ, ◌≡◌, refl}
use Rattle.meaning.specs.Keys.{Key}
use Rattle.meaning.specs.Refusals.{good_set}
use Rattle.read_key.specs.Symbols.{limits_of}

pub set_any_symbols : (k : Key) (a b most : ℕ) → good_set (limits_of 0 0 most) k ≡ good_set (limits_of a b most) k
unfolding good_set
set_any_symbols k a b most = refl
