use mathlib.Core.Path.{refl, sym, ◌∙◌}
use Rattle.read_inputs.specs.ProfileWalks.{profile_label, profile_key, profile_sound}
use Rattle.read_inputs.specs.LabelWalks.{LabelLoop, labels_start, label_here, label_body, label_refused, label_next}
use Rattle.theory_records.specs.Heads.{shorter}
use borrow.Author.Rules.{rules}
use native.Mathlib.Omega.{arith}
use lib.ListN.{length}
use Rattle.read_inputs.proofs.profile.read_entries.Given as goal

abbrev pub invariant-loop-end : goal.invariant-loop-end
invariant-loop-end l = LabelLoop l.first l.bytes l.classes l.rest l.labels l.last

abbrev pub decreases-loop-end : goal.decreases-loop-end
decreases-loop-end l = length l.rest
