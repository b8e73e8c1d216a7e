use Rattle.std.proofs.Common.{arith}
use Rattle.tree_table.specs.LinkedTree.{bytes_tree}
use Rattle.tree_pairs.specs.Reach.{key_of}
use Rattle.theory_trees.specs.Witness.{firsts_first}
use Rattle.tree_witness.specs.Pairs.{targets_inside, pair_shown, pairs_four, padded_four}
use Rattle.tree_witness.proofs.witness.Goals as goal

pub pair_at-requires-clause-hanging : goal.pair_at-requires-clause-hanging
pair_at-requires-clause-hanging c = let p = c.requires in (p.0, p.1.ordered, targets_inside (bytes_tree p.0.prepared.tree) p.1)

pub pair_at-requires-2-clause-hanging : goal.pair_at-requires-2-clause-hanging
pair_at-requires-2-clause-hanging c = let p = c.requires in (p.0, p.1.ordered, targets_inside (bytes_tree p.0.prepared.tree) p.1)

pub pair_at-requires-3-clause-hanging : goal.pair_at-requires-3-clause-hanging
pair_at-requires-3-clause-hanging c = let p = c.requires in (p.0, p.1.ordered, targets_inside (bytes_tree p.0.prepared.tree) p.1)

pub pair_at-requires-4-clause-hanging : goal.pair_at-requires-4-clause-hanging
pair_at-requires-4-clause-hanging c = let p = c.requires in (p.0, p.1.ordered, targets_inside (bytes_tree p.0.prepared.tree) p.1)

pub returns : goal.returns
returns c =
    let p = c.requires in
    let paths = (key_of c.args.reach.now).paths in
    let one = pair_shown _ _ c.unwrap_or-one.ensures c.pair_at.ensures in
    let two = pair_shown _ _ c.unwrap_or-two.ensures c.pair_at-2.ensures in
    let three = pair_shown _ _ c.unwrap_or-three.ensures c.pair_at-3.ensures in
    let four = pair_shown _ _ c.unwrap_or-four.ensures c.pair_at-4.ensures in
    let n = c.count.ensures.0 in
    let few = p.0.few in
    record {
      first = firsts_first p.1 (pairs_four paths _ _ _ _ _ _ _ _ _ n few one two three four);
      padded = record { few = omega arith; zeros = padded_four paths _ _ _ _ _ _ _ _ _ n few one two three four };
    }
