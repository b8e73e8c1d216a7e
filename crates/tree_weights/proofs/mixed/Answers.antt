use Rattle.std.proofs.Common.{refl}
use Rattle.tree_weights.specs.Weights.{mix, spread}
use Rattle.tree_weights.proofs.mixed.Goals as goal

pub returns : goal.returns
unfolding mix spread
returns c = refl
