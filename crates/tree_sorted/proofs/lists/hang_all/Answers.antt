use Rattle.std.proofs.Common.{◌<◌, ◌≤◌, List, ℕ, T, length, sym, subst, arith}
use Rattle.meaning.specs.Paths.{simple}
use Rattle.meaning.specs.Records.{key_in}
use Rattle.tree_sorted.specs.GoodKey.{good_simple}
use Rattle.tree_sorted.proofs.lists.hang_all.Goals as goal

pub hang-requires : goal.hang-requires
hang-requires c =
    let p = c.requires in
    let e = c.count-i-end.ensures.0 in
    let q = c.path.ensures in
    let h : c.loop-i.i < length (key_in c.args.body.now).paths = omega arith in (
      p.0,
      subst (λ (P : List ℕ). T (simple P)) (sym q) (good_simple p.1 _ h),
      subst (λ (P : List ℕ). length P ≤ 8) (sym q) (p.1.short _ h),
    )
