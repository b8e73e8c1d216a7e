use Rattle.write_step.specs.RowKeys.{body_fits, of_body}
use borrow.Author.Rules.{rules}
use Rattle.write_step.proofs.single.write_along.Goals as goal

pub write_part-requires : goal.write_part-requires
write_part-requires c = search (rules, body_fits)

pub returns : goal.returns
returns c = search (of_body)
