use Rattle.std.specs.Prelude.{refl}
use Rattle.std.proofs.Common.{◌∙◌, arith, rules}
use Rattle.write_salvage.specs.Blocks.{since_begin, since_room, since_step, since_all}
use Rattle.write_salvage.proofs.put_reasons.Goals as goal

pub pass_salvaged-put-requires : goal.pass_salvaged-put-requires
pass_salvaged-put-requires c = (omega arith, search rules)

pub loop-n-init : goal.loop-n-init
loop-n-init c = (since_begin c.args.reasons.now c.pass_salvaged-put.ensures, omega arith, c.pass_salvaged-put.ensures.counted, refl)

pub pass_reason-put-requires : goal.pass_reason-put-requires
pass_reason-put-requires c =
    let v = c.loop-n.invariant in
    let r = since_room v.0 in
    let k = c.pass_salvaged-put.auto.out in
    let l = v.3 in
    (omega arith, search rules, omega arith)

pub loop-n-preserved : goal.loop-n-preserved
loop-n-preserved c =
    let v = c.loop-n.invariant in
    let p = c.pass_reason-put.ensures in
    let n = p.counts in
    (since_step c.args.reasons.now c.loop-n.n v.0 (omega arith) c.from.ensures p, omega arith, v.2, c.pass_reason-put.auto.out ∙ v.3)

pub shape_of-out : goal.shape_of-out
shape_of-out c = c.loop-n.invariant.3 ∙ c.pass_salvaged-put.auto.out

pub returns : goal.returns
returns c = since_all c.args.reasons.now c.loop-n.n c.loop-n.invariant.0 c.loop-n-test.false c.pass_salvaged-put.ensures
