use Rattle.write_set.specs.Fronts.{joined_wrote}
use mathlib.Core.Path.{refl}
use Rattle.write_set.proofs.put_joined.Goals as goal

pub returns : goal.returns
returns c = joined_wrote c.put.ensures c.put-path_at.ensures c.put_number-front_at.ensures refl
