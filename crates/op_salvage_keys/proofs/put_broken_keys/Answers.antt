use Rattle.std.proofs.Common.{refl, ◌∙◌, arith}
use Rattle.op_salvage_keys.specs.Broken.{told_none, told_more, told_all}
use Rattle.op_salvage_keys.proofs.put_broken_keys.Goals as goal

pub loop-n-init : goal.loop-n-init
loop-n-init c = (told_none _ _ _ _ _ _ _, refl)

pub judge_key-found-requires : goal.judge_key-found-requires
judge_key-found-requires c = (c.prepare.ensures, c.requires.tree_bytes.1.each _ c.loop-n-test.true)

pub pass_tested-put-requires : goal.pass_tested-put-requires
pass_tested-put-requires c =
    let v = c.loop-n.invariant in
    let g = v.0.grows in
    let n = v.0.counts in
    let q = c.requires.start_bound in
    let k = c.requires.tree_bytes.2 in
    let l = v.1 in
    (omega arith, q.0, omega arith)

pub loop-n-preserved : goal.loop-n-preserved
loop-n-preserved c =
    let v = c.loop-n.invariant in
    (told_more _ v.0 _ c.judge_key-found.ensures c.pass_tested-put.ensures, c.pass_tested-put.auto.out ∙ v.1)

pub shape_of-out : goal.shape_of-out
shape_of-out c = c.loop-n.invariant.1

pub returns : goal.returns
returns c = told_all _ _ (omega arith) (omega arith) c.loop-n.invariant.0
