use Rattle.op_tally.specs.Counting.{refused_more}
use borrow.Author.Rules.{rules}
use Rattle.op_tally.proofs.count_refused.Goals as goal

pub returns : goal.returns
returns c = refused_more (search rules)
