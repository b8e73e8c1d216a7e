use Rattle.std.proofs.Common.{ap, arith}
use Rattle.read_judged.specs.Answers.{told, some_number}
use Rattle.read_salvage.specs.Loop.{number_kept, number_none}
use Rattle.read_salvage.proofs.salvage.new_number.Goals as goal

pub returns-in-Ok : goal.returns-in-Ok
returns-in-Ok c = (number_kept _ _ (ap told c.in-Ok.is), c.requires)

pub returns-in-Err : goal.returns-in-Err
returns-in-Err c = (rw c.in-Err.is (number_none _ _ (some_number _)), omega arith)
