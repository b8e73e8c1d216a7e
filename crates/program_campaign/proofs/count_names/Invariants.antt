use Rattle.std.proofs.Common.{length}
use Rattle.op_tally.specs.Counting.{tally_of}
use Rattle.program_campaign.specs.Inputs.{Counting}
use Rattle.program_campaign.proofs.count_names.Given as goal

abbrev pub invariant-loop-rest : goal.invariant-loop-rest
invariant-loop-rest g l = Counting l.list l.profile l.rest l.done (tally_of l.t)

abbrev pub decreases-loop-rest : goal.decreases-loop-rest
decreases-loop-rest g l = length l.rest
