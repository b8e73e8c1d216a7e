use Rattle.std.proofs.lemmas.Result.{err_from_is_err_and}
use Rattle.op_salvage.specs.Salvaged.{tree_stops, tree_salvages}
use Rattle.op_salvage.proofs.salvage.salvage_tree.Goals as goal

pub returns-in_err-passed : goal.returns-in_err-passed
returns-in_err-passed c =
    let p = err_from_is_err_and c.from_residual.result c.from_residual.ensures.1 in
    rw (p.1, p.2) (tree_stops _ _ _ _ _ _ c.salvage_into-read.ensures c.in_err-passed.ensures _ c.requires.1)

pub returns : goal.returns
returns c = tree_salvages _ _ _ _ _ _ c.salvage_into-read.ensures c.in_ok-passed.ensures c.requires.1 c.put.ensures
