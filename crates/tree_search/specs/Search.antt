-- What the search takes, in one value.
use Rattle.std.specs.Prelude.{ℕ, List, get_or}
use Rattle.tree_rows.specs.Hung.{none_hung}
use Rattle.tree_search.specs.Start.{Searchable}
use Rattle.tree_search.specs.declared.targets.Targets.{Targets}

abbrev pub Searches : Targets → Type 0
Searches targets =
    Searchable targets.reach.classes.now targets.reach.tree.now targets.reach.rows.now targets.reach.hung.now targets.reach.body.now
    targets.sorted.now targets.pivot

-- The node above each node of the key path that the search goes along
abbrev pub from_of : Targets → List ℕ
from_of targets = (get_or targets.reach.hung.now targets.pivot none_hung).from
