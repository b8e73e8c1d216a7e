use Rattle.theory_derive.specs.Written.{one_line, two_line}
use Rattle.write_step.specs.Lines.{lines_more}
use Rattle.write_step.specs.RowKeys.{united_fits}
use borrow.Author.Rules.{rules}
use Rattle.write_step.proofs.chain.write_meeting.Goals as goal

pub write_part-requires : goal.write_part-requires
write_part-requires c = search (rules, united_fits)

pub returns : goal.returns
unfolding one_line two_line
returns c = lines_more c.write_fronted-second.ensures (lines_more c.write_along-third.ensures c.write_part.ensures)
