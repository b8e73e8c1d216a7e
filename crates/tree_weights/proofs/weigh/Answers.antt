use Rattle.std.proofs.Common.{◌-◌, arith, refl, length-set}
use Rattle.tree_table.specs.LinkedTree.{bytes_tree}
use Rattle.tree_table.specs.Zeros.{zeros_at}
use Rattle.tree_weights.specs.Weights.{weighed_none, weighed_step, weighed_end}
use Rattle.tree_weights.proofs.weigh.Goals as goal

pub loop-i-init : goal.loop-i-init
loop-i-init c = let s = c.requires.some in (omega arith, refl, refl, refl, weighed_none _ _ _ _ _ _ c.size-i.ensures (zeros_at 4096) (zeros_at 4096))

pub loop-i-preserved : goal.loop-i-preserved
loop-i-preserved c =
    let v = c.loop-i.invariant in
    let t = c.requires in
    let g = t.above (c.loop-i.i - 1) (omega arith) (omega arith) in
    let f = t.few in (
      omega arith,
      simp length-set v.1,
      simp length-set v.2,
      simp length-set v.3,
      weighed_step _ _ _ _ _ _ _ _ _ _ (omega arith) (omega arith) (omega arith) (omega arith) (omega arith) g c.parent-above.ensures.0
          c.node_weight-own.ensures refl c.with_child.ensures v.4,
    )

pub returns : goal.returns
returns c = let i = c.loop-i.invariant in weighed_end _ _ _ _ _ _ (omega arith) i.0 (bytes_tree c.requires) i.4
