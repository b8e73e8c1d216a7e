use Rattle.std.proofs.Common.{ℕ, drop, length, ◌-◌, ◌≡◌, ◌∙◌, ap, subst, refl, arith, length-set, length-drop}
use Rattle.meaning.specs.Paths.{member}
use Rattle.meaning.specs.Trees.{here}
use Rattle.tree_table.specs.LinkedTree.{parents_smaller}
use Rattle.tree_table.specs.FileTable.{file_table}
use Rattle.tree_sorted.specs.Origin.{Climbed, origin_self, origin_last, origin_root, climbed_step, origin_found, origin_other, part_end}
use Rattle.tree_sorted.proofs.lists.origin.Goals as goal

pub returns-then-labels-eq0 : goal.returns-then-labels-eq0
returns-then-labels-eq0 c =
    let p = c.requires.tree_bytes in
    let f = p.0.few in
    let h = p.1 in
    (origin_self _ _ _ c.if-labels-eq0.true f h, omega arith)

pub returns-then-label-from : goal.returns-then-label-from
returns-then-label-from c =
    (origin_last _ _ _ _ _ _ refl c.if-labels-eq0.false c.label.ensures.0 c.from.ensures c.if-label-from.true, omega arith)

pub loop-i-init : goal.loop-i-init
loop-i-init c = (refl, omega arith, record { inside = c.requires.tree_bytes.1; down = here refl })

pub returns-then-node-eq0 : goal.returns-then-node-eq0
returns-then-node-eq0 c =
    let v = c.loop-i.invariant in
    let l = length-drop c.loop-i.i c.loop-i.run in
    let a = c.loop-i.auto.i in
    let t = c.loop-i-test.true in
    let s = c.requires.t.1 in
    (origin_root _ _ _ (parents_smaller c.requires.tree_bytes.0) _ _ c.if-node-eq0.true (omega arith) v.2, omega arith)

pub loop-i-preserved : goal.loop-i-preserved
loop-i-preserved c =
    let v = c.loop-i.invariant in
    let a = c.loop-i.auto.i in
    let t = c.loop-i-test.true in (
      length-set c.loop-i.run _ _ ∙ v.0,
      omega arith,
      climbed_step _ _ (parents_smaller c.requires.tree_bytes.0) _ _ _ c.loop-i.i c.loop-i.run c.if-node-eq0.false c.parent-node.ensures.0
          c.label-in-loop-i.ensures.0 (omega arith) (omega arith) v.2,
    )

pub returns-then-member : goal.returns-then-member
returns-then-member c =
    let v = c.loop-i.invariant in
    let f = c.requires.tree_bytes.0.few in
    let h = v.2.inside in
    let low = v.1 in
    let t = c.loop-i-test.false in
    let i : c.loop-i.i ≡ 8 - length c.args.path.now = omega arith in
    let w = subst (λ (k : ℕ). Climbed (file_table c.args.tree.now) c.args.x c.loop-i.node (drop k c.loop-i.run)) i v.2 in
    (origin_found _ _ _ c.requires.t.0 f _ _ _ w (c.member.ensures ∙ ap (member _) (part_end c.loop-i.run 8 _ v.0)) c.if-member.true, omega arith)

pub returns : goal.returns
returns c =
    let v = c.loop-i.invariant in
    let s = c.requires.t.1 in
    let low = v.1 in
    let t = c.loop-i-test.false in
    let i : c.loop-i.i ≡ 8 - length c.args.path.now = omega arith in
    let l = length-drop (8 - length c.args.path.now) c.loop-i.run in
    let w = subst (λ (k : ℕ). Climbed (file_table c.args.tree.now) c.args.x c.loop-i.node (drop k c.loop-i.run)) i v.2 in
    (origin_other _ _ _ _ _ _ (omega arith) w (c.member.ensures ∙ ap (member _) (part_end c.loop-i.run 8 _ v.0)) c.if-member.false, omega arith)
