use Rattle.op_salvage_keys.specs.Broken.{tested_none, tested_one}
use Rattle.op_salvage_keys.proofs.pass_tested.Goals as goal

pub returns-in-None : goal.returns-in-None
returns-in-None c = search (tested_none)

pub returns-in-Some : goal.returns-in-Some
returns-in-Some c = search (tested_one)
