use Rattle.std.proofs.Common.{◌<◌, rules, tests, sym, ◌∙◌}
use Rattle.std.proofs.lemmas.Result.{err_from_is_err_and}
use Rattle.read_judged.specs.Answers.{passes, faulted, some_number}
use native.Mathlib.Omega.{arith}
use lib.ListN.{length}
use Rattle.theory_records.specs.Heads.{shorter}
use Rattle.theory_records.specs.Bytes.{bytes_from}
use Rattle.read_tree.specs.Walks.{loop_few, long_here, tree_start, tree_next, tree_refused, tree_sound, tree_over, tree_empty}
use Rattle.read_tree.proofs.tree.read_tree.Goals as goal

pub returns-then-tree_limit-bytes : goal.returns-then-tree_limit-bytes
returns-then-tree_limit-bytes c = λ labels t. tree_over _ labels _ c.node_kind-kind.ensures c.tree_limit.ensures c.if-tree_limit-bytes.true

pub returns-then-is_empty : goal.returns-then-is_empty
returns-then-is_empty c = λ labels t. tree_empty _ labels _ (search (rules, tests))

pub loop-rest-init : goal.loop-rest-init
loop-rest-init c = tree_start _ _ _ _ c.node_kind-kind.ensures

pub judge_node-requires : goal.judge_node-requires
judge_node-requires c = let v = c.loop-rest.invariant in (v.is_node, let s = v.size in omega arith)

pub returns-in_err-at_record : goal.returns-in_err-at_record
returns-in_err-at_record c =
    let p = err_from_is_err_and c.from_residual.result c.from_residual.ensures.1 in
    let f = faulted _ _ c.in_err-at_record.ensures in
    rw (p.1, p.2, ← f.number, ← f.at) (tree_refused c.loop-rest.invariant (bytes_from _ (λ i h. (c.shared_slice_known-1.given i).fits)) c.judge_node.ensures c.tree_limit.ensures c.if-tree_limit-bytes.false (search (rules, tests)) (λ e. some_number _ (sym f.number ∙ e)))

pub word-end-requires : goal.word-end-requires
word-end-requires c = omega (arith, (long_here c.loop-rest.invariant c.judge_node.ensures (passes _ _ _ c.in_ok-at_record.ensures)).head)

pub slice_bounds-rest-count : goal.slice_bounds-rest-count
slice_bounds-rest-count c = let l = long_here c.loop-rest.invariant c.judge_node.ensures (passes _ _ _ c.in_ok-at_record.ensures) in let w = l.within in let g = l.long in let e = c.word-end.ensures.0 in omega arith

pub slice_bounds-rest-start : goal.slice_bounds-rest-start
slice_bounds-rest-start c = let l = long_here c.loop-rest.invariant c.judge_node.ensures (passes _ _ _ c.in_ok-at_record.ensures) in let w = l.within in let g = l.long in let e = c.word-end.ensures.0 in omega arith

pub overflow_add-nodes : goal.overflow_add-nodes
overflow_add-nodes c = let f = loop_few c.loop-rest.invariant in let t : 0 < length c.loop-rest.rest.now = search (rules, tests) in search rules

pub loop-rest-smaller : goal.loop-rest-smaller
loop-rest-smaller c = let l = long_here c.loop-rest.invariant c.judge_node.ensures (passes _ _ _ c.in_ok-at_record.ensures) in let s = l.some in let w = l.within in let g = l.long in let e = c.word-end.ensures.0 in shorter c.loop-rest.rest.now c.word-end.result (omega arith) (omega arith)

pub loop-rest-preserved : goal.loop-rest-preserved
loop-rest-preserved c = tree_next c.loop-rest.invariant (bytes_from _ (λ i h. (c.shared_slice_known-1.given i).fits)) c.judge_node.ensures (search (rules, tests)) (passes _ _ _ c.in_ok-at_record.ensures) c.word-end.ensures.0

pub returns : goal.returns
returns c = tree_sound c.loop-rest.invariant c.tree_limit.ensures c.if-tree_limit-bytes.false (search (rules, tests)) (search (rules, tests))
