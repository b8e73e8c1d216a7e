use Rattle.std.specs.Prelude.{ℕ, List, length}
use Rattle.std.proofs.Common.{refl, ◌∙◌, ap, take_all, arith}
use Rattle.meaning.specs.Salvage.{drop_lines}
use Rattle.write_salvage.specs.Blocks.{drops_count}
use Rattle.write_salvage.proofs.count_dropped.Goals as goal

pub loop-reason-init : goal.loop-reason-init
unfolding drop_lines
loop-reason-init c = (refl, omega arith)

pub overflow_add-dropped : goal.overflow_add-dropped
overflow_add-dropped c = let v = c.loop-reason.invariant.1 in let o = c.lines_of-dropped.ensures.1 in omega arith

pub loop-reason-preserved : goal.loop-reason-preserved
loop-reason-preserved c =
    let v = c.loop-reason.invariant in
    let o = c.lines_of-dropped.ensures in
    let n = drops_count c.args.reasons.now c.loop-reason.reason-index _ _ (omega arith) refl o.0 in
    (omega (arith, n), omega arith)

pub returns : goal.returns
returns c = let v = c.loop-reason.invariant in (v.0 ∙ ap (λ (l : List ℕ). length (drop_lines 0 l)) (take_all _ _ (omega arith)), omega arith)
