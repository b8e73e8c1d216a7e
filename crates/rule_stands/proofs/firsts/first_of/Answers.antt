use Rattle.std.proofs.Common.{arith}
use Rattle.rule_stands.specs.Pointing.{body_long, first_same, first_own, apart_more}
use Rattle.rule_stands.proofs.firsts.first_of.Goals as goal

pub slice_bounds-eq-count : goal.slice_bounds-eq-count
slice_bounds-eq-count c = body_long c.requires _ (let h = c.loop-i-test.true in omega arith) c.line_body-other.ensures

pub slice_bounds-eq-start : goal.slice_bounds-eq-start
slice_bounds-eq-start c = body_long c.requires _ (let h = c.loop-i-test.true in omega arith) c.line_body-other.ensures

pub slice_bounds-eq-count-in-loop-i : goal.slice_bounds-eq-count-in-loop-i
slice_bounds-eq-count-in-loop-i c = body_long c.requires _ (omega arith) c.line_body-own.ensures

pub slice_bounds-eq-start-in-loop-i : goal.slice_bounds-eq-start-in-loop-i
slice_bounds-eq-start-in-loop-i c = body_long c.requires _ (omega arith) c.line_body-own.ensures

pub returns-then-eq : goal.returns-then-eq
returns-then-eq c = first_same c.requires c.loop-i.invariant c.loop-i-test.true c.line_body-other.ensures c.line_body-own.ensures c.eq.ensures c.if-eq.true

pub loop-i-preserved : goal.loop-i-preserved
loop-i-preserved c = apart_more c.requires c.loop-i.invariant c.loop-i-test.true c.line_body-other.ensures c.line_body-own.ensures c.eq.ensures c.if-eq.false

pub returns : goal.returns
returns c = first_own c.requires c.loop-i.invariant c.loop-i-test.false
