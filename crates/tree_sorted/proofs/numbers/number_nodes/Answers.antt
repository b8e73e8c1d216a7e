use Rattle.std.proofs.Common.{◌∙◌, sym, refl, arith}
use Rattle.tree_sorted.specs.Numbers.{numbered_start}
use Rattle.tree_sorted.specs.Sorted.{rows_count}
use Rattle.tree_sorted.proofs.numbers.number_nodes.Goals as goal

pub loop-c-init : goal.loop-c-init
loop-c-init c =
    let k = rows_count c.requires c.size-count.ensures in
    (numbered_start _ _ _ _ k.1 _ _ c.clear_numbers.ensures.0, record { tops = refl; groups = refl }, omega arith)

pub number_family-shared-requires-clause-nexts : goal.number_family-shared-requires-clause-nexts
number_family-shared-requires-clause-nexts c =
    let k = rows_count c.requires c.size-count.ensures in
    (k.0, k.1, sym c.family_of.ensures.0 ∙ c.if-family_of-c.true)
