use Rattle.std.proofs.Common.{refl}
use Rattle.tree_search.proofs.tables.Tables.new.Goals as goal

pub returns : goal.returns
returns c = rw c.no_lists.ensures (rw c.no_lists-2.ensures (rw c.no_lists-3.ensures (rw c.no_lists-4.ensures refl)))
