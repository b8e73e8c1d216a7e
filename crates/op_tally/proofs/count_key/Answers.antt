use Rattle.op_tally.specs.Counting.{key_broken, key_kept}
use borrow.Author.Rules.{rules}
use Rattle.op_tally.proofs.count_key.Goals as goal

pub returns-then-breaks : goal.returns-then-breaks
returns-then-breaks c = key_broken (search rules) (search rules)

pub returns-else-breaks : goal.returns-else-breaks
returns-else-breaks c = key_kept (search rules) (search rules)
