use Rattle.std.proofs.Common.{arith, ◌-◌, ◌+◌, ◌≡◌}
use Rattle.read_walker.specs.Steps.{steps_stay, steps_next, steps_done}
use Rattle.read_walker.proofs.record_at.Goals.{else-loop-test, then-loop-test+then-is_none}
use Rattle.read_walker.proofs.record_at.Goals as goal

pub loop-preserved : goal.loop-preserved
loop-preserved c =
    let left : c.args.n - (c.loop.counter + 1) ≡ c.args.n - c.loop.counter - 1 = omega arith in
    record {
      walks = cc;
      steps = rw left (steps_next c.loop.invariant.steps c.loop.invariant.walks c.next.result c.next.ensures.steps.1 (omega arith));
    }

pub returns : goal.returns
returns c = elim c.loop-test.branch [
  | else-loop-test w ↦ rw w.records-is (steps_done c.loop.invariant.steps (omega arith))
  | then-loop-test+then-is_none w ↦ rw w.records-is (steps_stay c.loop.invariant.steps c.loop.invariant.walks w.next.result w.next.ensures.steps.1 w.is_none.ensures w.if-is_none.true)
]
