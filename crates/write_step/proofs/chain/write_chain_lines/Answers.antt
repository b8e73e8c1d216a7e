use Rattle.write_step.specs.StepLines.{chain_wrote, chain_wrote_empty}
use Rattle.write_step.specs.StepFits.{meeting_fits}
use Rattle.write_step.specs.RowKeys.{united_fits}
use borrow.Author.Rules.{rules}
use Rattle.theory_pattern.specs.Spots.{holds_empty}
use Rattle.write_step.proofs.chain.write_chain_lines.Goals as goal

pub write_meeting-next-requires : goal.write_meeting-next-requires
write_meeting-next-requires c = search (meeting_fits)

pub write_part-last-requires : goal.write_part-last-requires
write_part-last-requires c = search (rules, united_fits)

pub returns-then-holds_empty : goal.returns-then-holds_empty
unfolding holds_empty
returns-then-holds_empty c = chain_wrote_empty _ _ _ _ _ _ _ c.write_along.ensures c.write_part-last.ensures c.write_meeting-next.ensures c.holds_empty.ensures c.if-holds_empty.true

pub returns : goal.returns
unfolding holds_empty
returns c = chain_wrote _ _ _ _ _ _ _ c.write_part-last.ensures c.write_meeting-next.ensures c.holds_empty.ensures c.if-holds_empty.false
