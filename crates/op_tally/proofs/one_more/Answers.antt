use Rattle.op_tally.specs.Counting.{bump_is}
use Rattle.std.proofs.Common.{◌∙◌, arith}
use Rattle.op_tally.proofs.one_more.Goals as goal

pub returns : goal.returns
returns c = c.saturating_add.ensures ∙ bump_is c.args.n (omega arith)
