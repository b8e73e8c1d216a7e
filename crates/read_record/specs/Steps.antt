-- One step from key path to key path in place, said of the counts and bytes alone.
use Rattle.std.specs.Prelude.{ℕ, zero, suc, ◌-◌, ◌<◌, ◌≡◌, refl, ◌&&◌, List, [], ◌∷◌}
use Rattle.std.proofs.Common.{arith, sub-one}
use Rattle.read_record.specs.BodyParts.{holds_path, lead_path, after_path, paths_end, paths_of}
use Rattle.read_record.specs.KeyPaths.{paths_count}

pub ends_step : (left : ℕ) (rest : List ℕ) → 0 < left → paths_end left rest ≡ (holds_path rest && paths_end (left - 1) (after_path rest))
unfolding paths_end
ends_step zero rest h = absurd (omega arith)
ends_step (suc left) rest h = rw sub-one

pub paths_step : (left : ℕ) (rest : List ℕ) → 0 < left → paths_of left rest ≡ lead_path rest ∷ paths_of (left - 1) (after_path rest)
unfolding paths_of
paths_step zero rest h = absurd (omega arith)
paths_step (suc left) rest h = rw sub-one

pub paths_none : (rest : List ℕ) → paths_of 0 rest ≡ []
unfolding paths_of
paths_none rest = refl

pub ruleset path_steps = (ends_step, paths_step, paths_none, paths_count)
