use Rattle.std.proofs.Common.{◌≡◌, ◌<◌, ◌-◌, ◌∙◌, false, arith}
use Rattle.read_record.specs.Library.{same_list}
use Rattle.read_entry.specs.Repeats.{search_start, search_head, search_room, search_within, search_found, search_next, search_done}
use Rattle.read_entry.proofs.repeats.part_used.Goals as goal

pub loop-init : goal.loop-init
loop-init c = search_start c.requires.0 c.requires.1 (omega arith)

pub word-end-requires : goal.word-end-requires
word-end-requires c = search_head c.loop.invariant (omega arith)

pub slice_bounds-eq-count : goal.slice_bounds-eq-count
slice_bounds-eq-count c = let more : 0 < c.args.count - c.loop.counter = omega arith in omega (arith, search_room c.loop.invariant more, c.word-end.ensures.0)

pub slice_bounds-eq-start : goal.slice_bounds-eq-start
slice_bounds-eq-start c = let more : 0 < c.args.count - c.loop.counter = omega arith in omega (arith, search_room c.loop.invariant more, search_within c.loop.invariant more, c.word-end.ensures.0)

pub slice_bounds-eq-end : goal.slice_bounds-eq-end
slice_bounds-eq-end c = let more : 0 < c.args.count - c.loop.counter = omega arith in omega (arith, search_room c.loop.invariant more, search_within c.loop.invariant more, c.word-end.ensures.0)

pub returns-then-eq : goal.returns-then-eq
returns-then-eq c = search_found c.loop.invariant (omega arith) c.word-end.ensures.0 (c.eq.ensures ∙ same_list _ _) c.if-eq.true

pub slice_bounds-rest-count : goal.slice_bounds-rest-count
slice_bounds-rest-count c = let more : 0 < c.args.count - c.loop.counter = omega arith in omega (arith, search_within c.loop.invariant more, c.word-end.ensures.0)

pub slice_bounds-rest-start : goal.slice_bounds-rest-start
slice_bounds-rest-start c = let more : 0 < c.args.count - c.loop.counter = omega arith in omega (arith, search_within c.loop.invariant more, c.word-end.ensures.0)

pub loop-preserved : goal.loop-preserved
loop-preserved c = search_next c.loop.invariant (omega arith) c.word-end.ensures.0 (c.eq.ensures ∙ same_list _ _) (let e : c.eq.result ≡ false = cc in e) (omega arith)

pub returns : goal.returns
returns c = search_done c.loop.invariant (omega arith)
