use Rattle.std.proofs.Common.{length}
use Rattle.meaning.specs.Operations.{single_in, labels_in, keys_in}
use Rattle.rule_lines.specs.Checking.{Sofar}
use Rattle.rule_lines.proofs.check.check_lines.Given as goal

abbrev pub invariant-loop-part : goal.invariant-loop-part
invariant-loop-part l = Sofar (single_in l.profile) (labels_in l.profile) (keys_in l.profile) l.proof l.n l.rest

abbrev pub decreases-loop-part : goal.decreases-loop-part
decreases-loop-part l = length l.rest
