use Rattle.std.proofs.Common.{◌+◌, ◌-◌, ◌≡◌, ◌∙◌, arith, refl}
use Rattle.read_record.specs.Library.{same_list}
use Rattle.read_labels.specs.Named.{naming_room, naming_within, naming_here, naming_next, naming_done}
use Rattle.read_labels.proofs.named.label_named.Goals as goal

pub slice_bounds-eq-count : goal.slice_bounds-eq-count
slice_bounds-eq-count c = omega (arith, naming_room c.loop.invariant (omega arith))

pub slice_bounds-eq-start : goal.slice_bounds-eq-start
slice_bounds-eq-start c = omega (arith, naming_room c.loop.invariant (omega arith), naming_within c.loop.invariant (omega arith))

pub slice_bounds-eq-end : goal.slice_bounds-eq-end
slice_bounds-eq-end c = omega (arith, naming_within c.loop.invariant (omega arith))

pub returns-then-eq : goal.returns-then-eq
returns-then-eq c = naming_here c.loop.invariant (omega arith) c.word-end.ensures.0 (c.eq.ensures ∙ same_list _ _) c.if-eq.true c.from.ensures refl (omega arith) c.then_some.ensures

pub loop-preserved : goal.loop-preserved
loop-preserved c =
    let left : c.args.count - (c.loop.counter + 1) ≡ c.args.count - c.loop.counter - 1 = omega arith in
    rw left (naming_next c.loop.invariant (omega arith) c.word-end.ensures.0 (c.eq.ensures ∙ same_list _ _) c.if-eq.false)

pub returns : goal.returns
returns c = naming_done c.loop.invariant (omega arith)
