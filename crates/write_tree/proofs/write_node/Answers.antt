use Rattle.write_bytes.specs.Wrote.{wrote_is}
use Rattle.write_tree.specs.Laws.{node_stored}
use Rattle.write_tree.proofs.write_node.Goals as goal

pub returns : goal.returns
returns c = node_stored _ c.put-parent_at.ensures (wrote_is c.to_le_bytes.ensures c.put-label_at.ensures) c.put-value_at.ensures (wrote_is c.to_le_bytes-2.ensures c.put.ensures)
