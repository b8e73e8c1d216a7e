use Rattle.std.proofs.Common.{arith, refl}
use Rattle.tree_table.specs.Zeros.{zeros_at}
use Rattle.tree_groups.specs.Leaders.{families_step}
use Rattle.tree_groups.specs.InRows.{families_start, gathered_so}
use Rattle.tree_groups.proofs.gather.Goals as goal

pub loop-x-init : goal.loop-x-init
loop-x-init c =
    let t = c.requires.0.tree in
    let s = t.some in
    let e = c.size-count.ensures in (
      omega arith,
      families_start _ _ _ _ e (omega arith),
      record { parent = refl; label = refl; first = refl; next = refl; same = refl },
      record { long = refl; none = zeros_at 4096 },
    )

pub loop-x-preserved : goal.loop-x-preserved
loop-x-preserved c =
    let i = c.loop-x.invariant in
    let o = i.2 in
    let f = c.requires.0.tree.few in
    let e = c.size-count.ensures in (
      omega arith,
      families_step _ _ _ _ _ (omega arith) (omega arith) f i.1 c.leader-own.ensures.0,
      record { parent = o.parent; label = o.label; first = o.first; next = o.next; same = o.same },
      c.leader-own.ensures.1,
    )

pub returns : goal.returns
returns c =
    let i = c.loop-x.invariant in
    let o = i.2 in
    gathered_so _ _ _ _ _ c.requires.0.tree (omega arith) i.1 (record { parent = o.parent; label = o.label; first = o.first; next = o.next; same = o.same })
