use Rattle.std.proofs.Common.{arith, rules}
use Rattle.op_campaign.specs.Segments.{sound_accepted, number_few, adds_refused}
use Rattle.op_campaign.proofs.count_under.Goals as goal

pub count_refused-requires : goal.count_refused-requires
count_refused-requires c = let h = number_few c.requires.1 _ _ c.read_tree.ensures c.in-Err.is c.number.ensures in omega arith

pub count_accepted-requires : goal.count_accepted-requires
count_accepted-requires c = sound_accepted c.requires.1 _ _ c.read_tree.ensures c.requires.0 c.in-Ok.is

pub returns-in-Err : goal.returns-in-Err
returns-in-Err c = adds_refused c.requires.1 _ _ c.read_tree.ensures c.in-Err.is c.number.ensures (search rules) c.count_refused.ensures
