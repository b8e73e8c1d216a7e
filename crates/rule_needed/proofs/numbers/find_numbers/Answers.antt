use Rattle.std.proofs.Common.{ℕ, arith}
use Rattle.std.proofs.lemmas.List.{length-replicate}
use Rattle.rule_needed.specs.Numbering.{counted_start, counted_next}
use Rattle.rule_needed.proofs.numbers.find_numbers.Goals as goal

pub loop-n-init : goal.loop-n-init
loop-n-init c = counted_start _ _ (length-replicate {A = ℕ} 256 0)

pub loop-n-preserved : goal.loop-n-preserved
loop-n-preserved c = counted_next c.loop-n.invariant (omega arith) c.next_number-next.ensures
