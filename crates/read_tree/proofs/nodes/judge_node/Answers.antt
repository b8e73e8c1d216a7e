use native.Mathlib.Omega.{arith}
use Rattle.theory_records.specs.Heads.{passed}
use Rattle.read_tree.specs.Nodes.{node_many, node_torn, node_other, node_rest, node_body, stride_told}
use mathlib.Core.Path.{ap}
use mathlib.Core.Bool.{not}
use Rattle.read_tree.proofs.nodes.judge_node.Goals as goal

pub returns-then-too_many : goal.returns-then-too_many
returns-then-too_many c = node_many _ _ _ _ _ _ c.too_many.ensures c.if-too_many.true

pub returns-then-not-whole : goal.returns-then-not-whole
returns-then-not-whole c = node_torn _ _ _ _ _ _ c.too_many.ensures c.if-too_many.false c.whole.ensures (ap not c.if-not-whole.true)

pub word-requires : goal.word-requires
word-requires c = omega (arith, passed _ c.whole.ensures (ap not c.if-not-whole.false))

pub returns-then-word-kind : goal.returns-then-word-kind
returns-then-word-kind c = node_other _ _ _ _ _ _ c.too_many.ensures c.if-too_many.false c.whole.ensures (ap not c.if-not-whole.false) c.word.ensures.0 c.if-word-kind.true

pub word-end-requires : goal.word-end-requires
word-end-requires c = omega (arith, passed _ c.whole.ensures (ap not c.if-not-whole.false))

pub slice_bounds-judge_body-count : goal.slice_bounds-judge_body-count
slice_bounds-judge_body-count c = omega (arith, passed _ c.whole.ensures (ap not c.if-not-whole.false), c.word-end.ensures.0)

pub slice_bounds-judge_body-start : goal.slice_bounds-judge_body-start
slice_bounds-judge_body-start c = omega (arith, passed _ c.whole.ensures (ap not c.if-not-whole.false), c.word-end.ensures.0)

pub slice_bounds-judge_body-end : goal.slice_bounds-judge_body-end
slice_bounds-judge_body-end c = omega (arith, passed _ c.whole.ensures (ap not c.if-not-whole.false), c.word-end.ensures.0)

pub judge_body-requires : goal.judge_body-requires
judge_body-requires c = let p = c.requires in
    let b = node_body p.0 _ c.whole.ensures (ap not c.if-not-whole.false) c.word.ensures.0 c.if-word-kind.false c.word-end.ensures.0 in
    (c.bytes_of-long.ensures.1, stride_told _ _ _ _ c.bytes_of-long.ensures.0 p.1, b.0, b.1)

pub returns : goal.returns
returns c = node_rest _ _ _ _ _ _ c.too_many.ensures c.if-too_many.false c.whole.ensures (ap not c.if-not-whole.false) c.word.ensures.0 c.if-word-kind.false c.word-end.ensures.0 c.bytes_of-long.ensures.0 c.judge_body.ensures
