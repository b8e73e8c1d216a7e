use Rattle.std.proofs.Common.{rules}
use Rattle.step_rows.specs.Drawn.{drawing_start, drawing_writes, drawing_more, drawing_end}
use Rattle.step_rows.proofs.draw.Goals as goal

pub loop-j-init : goal.loop-j-init
loop-j-init c = let q = c.into_iter-j-iterator.ensures.into_iter_gives in drawing_start c.requires (cc (c.enumerate-j-items.ensures.source, c.paths.ensures, c.new.ensures)) (cc (c.enumerate-j-items.ensures.count)) (search rules)

pub write_row-requires : goal.write_row-requires
write_row-requires c = drawing_writes c.loop-j.invariant c.in-Some.ensures.steps.0 c.in-Some.ensures.steps.1

pub loop-j-preserved : goal.loop-j-preserved
loop-j-preserved c = let h = c.in-Some.ensures.steps in drawing_more c.loop-j.invariant h.0 h.1 c.write_row.ensures h.2

pub returns-clause-draws : goal.returns-clause-draws
returns-clause-draws c = let h = c.in-None.ensures.steps in drawing_end c.loop-j.invariant h.0.0
