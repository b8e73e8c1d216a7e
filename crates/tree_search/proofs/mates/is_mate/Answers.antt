use Rattle.std.proofs.Common.{refl}
use Rattle.tree_table.specs.LinkedTree.{bytes_tree}
use Rattle.tree_search.specs.Mates.{test_apart, test_pairs}
use Rattle.tree_search.proofs.mates.is_mate.Goals as goal

pub returns-then-targets-mated : goal.returns-then-targets-mated
returns-then-targets-mated c =
    let t = c.requires.searchable.0.hanging.prepared.tree in
    let p = c.requires.searchable in (
      test_apart _ _ _ _ _ _ _ (bytes_tree t) t.few p.0.highest p.1 (p.3 c.if-mated-b.false) _ _ refl refl c.if-targets-mated.true,
      c.requires.marked,
      refl,
    )

pub returns : goal.returns
returns c =
    let t = c.requires.searchable.0.hanging.prepared.tree in
    let p = c.requires.searchable in
    let r = c.agree_all.ensures in (
      test_pairs _ _ _ _ _ _ _ (bytes_tree t) t.few p.0.highest p.1 (p.3 c.if-mated-b.false) _ _ _ refl refl c.if-targets-mated.false p.2
          c.if-b-mated.false c.if-mated-b.false r.0,
      r.1,
      r.2,
    )
