use Rattle.std.proofs.Common.{arith}
use Rattle.write_text.specs.Looking.{looking_start, looking_as, stays_start, looking_fits, looking_head, looking_room, looking_within, looking_body, looking_found, looking_next, looking_done}
use Rattle.write_text.proofs.put_declared.Goals as goal

pub loop-init : goal.loop-init
loop-init c = (looking_as (omega arith) (looking_start c.args.n _ _ c.requires.0), stays_start _)

pub word-end-requires : goal.word-end-requires
word-end-requires c = looking_head c.loop.invariant.0 (omega arith)

pub slice_bounds-body-count : goal.slice_bounds-body-count
slice_bounds-body-count c = let r = looking_room c.loop.invariant.0 (omega arith) in omega (arith, c.word-end.ensures.0)

pub slice_bounds-body-start : goal.slice_bounds-body-start
slice_bounds-body-start c = let r = looking_room c.loop.invariant.0 (omega arith) in omega (arith, c.word-end.ensures.0)

pub slice_bounds-body-end : goal.slice_bounds-body-end
slice_bounds-body-end c = let r = looking_within c.loop.invariant.0 (omega arith) in omega (arith, c.word-end.ensures.0)

pub bounds-body-0 : goal.bounds-body-0
bounds-body-0 c = let r = looking_body c.loop.invariant.0 (omega arith) c.word-end.ensures.0 in omega arith

pub put_label-requires : goal.put_label-requires
put_label-requires c =
    let s = c.loop.invariant.0 in (
      looking_body s (omega arith) c.word-end.ensures.0,
      looking_fits s (omega arith) c.word-end.ensures.0 c.from.ensures c.if-from-n.true _ c.loop.invariant.1 c.requires.1,
    )

pub returns-then-from-n : goal.returns-then-from-n
returns-then-from-n c = looking_found c.loop.invariant.0 (omega arith) c.word-end.ensures.0 c.from.ensures c.if-from-n.true c.loop.invariant.1 c.put_label.ensures

pub slice_bounds-rest-count : goal.slice_bounds-rest-count
slice_bounds-rest-count c = let r = looking_within c.loop.invariant.0 (omega arith) in omega (arith, c.word-end.ensures.0)

pub slice_bounds-rest-start : goal.slice_bounds-rest-start
slice_bounds-rest-start c = let r = looking_within c.loop.invariant.0 (omega arith) in omega (arith, c.word-end.ensures.0)

pub loop-preserved : goal.loop-preserved
loop-preserved c =
    (looking_as (omega arith) (looking_next c.loop.invariant.0 (omega arith) c.word-end.ensures.0 c.from.ensures c.if-from-n.false), c.loop.invariant.1)

pub returns : goal.returns
returns c = looking_done c.loop.invariant.0 (omega arith) c.loop.invariant.1 c.requires.1
