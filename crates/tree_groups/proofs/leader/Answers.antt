use Rattle.std.proofs.Common.{ℕ, List, ◌≡◌, arith, subst}
use Rattle.meaning.specs.Paths.{Class}
use Rattle.meaning.specs.Trees.{Table}
use Rattle.tree_rows.specs.Families.{FamiliesFrom}
use Rattle.tree_table.specs.LinkedTree.{parents_smaller}
use Rattle.tree_rows.specs.Chain.{next_falls}
use Rattle.tree_groups.specs.Leaders.{seeking_start, seeking_next, family_met, family_own}
use Rattle.tree_groups.proofs.leader.Goals as goal

later : {κ : ℕ → Class} {t : Table} (family : List ℕ) (i j : ℕ) → i ≡ j → FamiliesFrom κ t family i → FamiliesFrom κ t family j
later family i j e c = subst (FamiliesFrom _ _ family) e c

pub loop-y-init : goal.loop-y-init
loop-y-init c =
    let p = c.requires.x_bound in
    (seeking_start _ _ _ _ _ c.requires.weighed c.requires.sorted.0 c.requires.sorted.1 _ _ p.0 p.1 c.from-y.ensures, p.3)

pub returns-then-alike : goal.returns-then-alike
returns-then-alike c = (
  family_met _ _ (parents_smaller c.requires.nodes.linked.tree) _ c.args.bucket.now _ c.requires.x_bound.1 (later _ _ _ c.requires.x_bound.2 c.requires.nodes.families) _ _ _ (omega arith) c.loop-y.invariant.0
      c.alike.ensures.0 c.if-alike.true c.family_of.ensures.0,
  c.alike.ensures.1,
)

pub loop-y-smaller : goal.loop-y-smaller
loop-y-smaller c = next_falls _ _ _ c.requires.sorted.1 _ _ (omega arith) c.loop-y.invariant.0.inside c.from-y-in-loop-y.ensures

pub loop-y-preserved : goal.loop-y-preserved
loop-y-preserved c = (
  seeking_next _ _ _ _ _ c.requires.weighed c.requires.sorted.0 c.requires.sorted.1 _ _ _ _ c.requires.x_bound.1 (omega arith) c.loop-y.invariant.0
      c.alike.ensures.0 c.if-alike.false c.from-y-in-loop-y.ensures,
  c.alike.ensures.1,
)

pub returns : goal.returns
returns c = (
  family_own _ _ (parents_smaller c.requires.nodes.linked.tree) _ c.args.bucket.now _ c.requires.x_bound.1 (later _ _ _ c.requires.x_bound.2 c.requires.nodes.families) _ (omega arith) c.loop-y.invariant.0,
  c.loop-y.invariant.1,
)
