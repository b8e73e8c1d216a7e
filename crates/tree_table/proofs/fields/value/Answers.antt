use Prim.Native.Nat.{ℕ, ◌*◌, ◌+◌, ◌-◌}
use lib.ListN.{take, drop}
use Rattle.meaning.specs.Records.{number}
use native.Mathlib.Omega.{arith}
use mathlib.Core.Path.{◌≡◌, ap, ◌∙◌}
use Rattle.tree_table.specs.FileTable.{file_table, told_fits}
use borrow.Author.Rules.{rules}
use Rattle.tree_table.proofs.fields.value.Goals as goal

pub overflow_mul-at : goal.overflow_mul-at
overflow_mul-at c = let f = told_fits _ _ _ c.node_bytes-long.ensures.0 c.requires in let z = f.0 in search rules

pub overflow_add-at : goal.overflow_add-at
overflow_add-at c = let f = told_fits _ _ _ c.node_bytes-long.ensures.0 c.requires in let z = f.0 in let y = f.1 in search rules

pub overflow_add-at-2 : goal.overflow_add-at-2
overflow_add-at-2 c = let f = told_fits _ _ _ c.node_bytes-long.ensures.0 c.requires in let z = f.0 in let y = f.1 in search rules

pub slice_bounds-number-count : goal.slice_bounds-number-count
slice_bounds-number-count c = let f = told_fits _ _ _ c.node_bytes-long.ensures.0 c.requires in let y = f.1 in omega arith

pub slice_bounds-number-start : goal.slice_bounds-number-start
slice_bounds-number-start c = let f = told_fits _ _ _ c.node_bytes-long.ensures.0 c.requires in let y = f.1 in search rules

pub slice_bounds-number-end : goal.slice_bounds-number-end
slice_bounds-number-end c = let f = told_fits _ _ _ c.node_bytes-long.ensures.0 c.requires in let z = f.0 in search rules

pub returns : goal.returns
unfolding file_table
returns c = let w : ℕ = c.node_bytes-long.result in
    let i : ℕ = c.args.i in
    let gap : w * i + w - (w * i + 7) ≡ w - 7 = omega arith in (
      c.number.ensures.0
          ∙ ap (λ (k : ℕ). number (take k (drop (w * i + 7) c.args.tree.now))) gap
          ∙ ap (λ (v : ℕ). number (take (v - 7) (drop (v * i + 7) c.args.tree.now))) c.node_bytes-long.ensures.0,
      c.number.ensures.1,
    )
