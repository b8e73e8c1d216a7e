use Rattle.tree_sorted.specs.Stores.{hung_done}
use Rattle.tree_sorted.proofs.lists.hang.Goals as goal

pub returns : goal.returns
returns c = hung_done _ _ _ _ _ _ _ _ c.requires.0.few c.size.ensures c.find_origins.ensures c.link_up.ensures.0 c.link_up.ensures.1
