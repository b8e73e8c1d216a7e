use native.Mathlib.Omega.{arith}
use lib.ListN.{length-take}
use Rattle.write_proof.specs.Whole.{split_fits, split_wrote}
use Rattle.write_proof.proofs.write_split.Goals as goal

pub slice_bounds-write_of_key-end : goal.slice_bounds-write_of_key-end
slice_bounds-write_of_key-end c = let h = c.requires.3 in let e = length-take c.args.u c.args.row.now in omega arith

pub write_of_key-requires : goal.write_of_key-requires
write_of_key-requires c = split_fits c.requires.0 c.requires.2 _ c.first_rule-rule.ensures c.requires.3 c.requires.1

pub returns : goal.returns
returns c = split_wrote c.requires.0 c.requires.2 _ c.first_rule-rule.ensures c.write_of_key.ensures
