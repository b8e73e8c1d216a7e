use Rattle.op_tree_keys.specs.ProfileKeys.{found_hanging, found_targets, found_witness}
use Rattle.op_tree_keys.proofs.witness_of.Goals as goal

pub witness-requires : goal.witness-requires
witness-requires c = (search (found_hanging), search (found_targets))

pub returns : goal.returns
returns c = search (found_witness)
