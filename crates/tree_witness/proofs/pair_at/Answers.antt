use Rattle.std.proofs.Common.{arith}
use Rattle.tree_table.specs.Zeros.{zeros_at}
use Rattle.tree_pairs.specs.Pairs.{each_one}
use Rattle.tree_witness.proofs.pair_at.Goals as goal

pub put_firsts-requires-clause-bare : goal.put_firsts-requires-clause-bare
put_firsts-requires-clause-bare c = zeros_at 4096

pub first_pair-requires-clause-firsts : goal.first_pair-requires-clause-firsts
first_pair-requires-clause-firsts c =
    let e = c.count.ensures.0 in
    let h = c.if-count-i.false in
    (c.put_firsts.ensures, each_one c.requires.each _ (omega arith))
