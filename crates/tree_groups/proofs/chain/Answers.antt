use Rattle.tree_table.specs.Zeros.{zeros_at}
use Rattle.tree_groups.proofs.chain.Goals as goal

pub hang_under-requires : goal.hang_under-requires
hang_under-requires c = (c.requires.0, c.requires.1, λ x p h. c.requires.2 x h, λ v h. zeros_at 4096 v)
