use Rattle.read_key.specs.Validity.{both_behind}
use Rattle.read_key.proofs.validity.both_valid.Goals as goal

pub returns : goal.returns
returns c = both_behind _ _ _ c.all_inner-front_inner.ensures c.is_valid-front_valid.ensures c.valid_behind.ensures
