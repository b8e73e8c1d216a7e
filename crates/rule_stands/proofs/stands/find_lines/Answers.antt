use Rattle.std.proofs.Common.{ℕ, arith}
use Rattle.std.proofs.lemmas.List.{length-replicate}
use Rattle.rule_stands.specs.Standing.{stands_start, stands_few, stands_line, stands_next, line_long, line_low}
use Rattle.rule_stands.proofs.stands.find_lines.Goals as goal

pub loop-place-init : goal.loop-place-init
loop-place-init c = stands_start c.requires _ (length-replicate {A = ℕ} 256 0)

pub bounds-at-n : goal.bounds-at-n
bounds-at-n c = let h = stands_few c.loop-place.invariant c.loop-place-test.true in let e = c.loop-place.invariant.size in omega arith

pub word-place-requires : goal.word-place-requires
word-place-requires c = let h = line_long (stands_line c.loop-place.invariant c.loop-place-test.true) in omega arith

pub loop-place-smaller : goal.loop-place-smaller
loop-place-smaller c = let h = line_low (stands_line c.loop-place.invariant c.loop-place-test.true) c.word-place.ensures.0 in let k = c.loop-place-test.true in omega arith

pub loop-place-preserved : goal.loop-place-preserved
loop-place-preserved c = stands_next c.loop-place.invariant c.loop-place-test.true c.word-place.ensures.0
