use mathlib.Core.Path.{◌∙◌, ap}
use Prim.Native.Nat.{ℕ}
use mathlib.Core.List.{List}
use native.Mathlib.Omega.{arith}
use lib.ListN.{length, get_or}
use Rattle.read_record.specs.KeyPaths.{set_nonempty, count_is}
use Rattle.read_record.proofs.keys.count.Goals as goal

pub bounds-set-0 : goal.bounds-set-0
bounds-set-0 c = omega (arith, ap length c.counted_set-set.ensures, set_nonempty _ c.requires)

pub returns : goal.returns
returns c = (c.from.ensures ∙ ap (λ (l : List ℕ). get_or l 0 0) c.counted_set-set.ensures ∙ count_is _ c.requires, (omega arith))
