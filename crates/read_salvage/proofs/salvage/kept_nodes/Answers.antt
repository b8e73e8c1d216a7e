use Rattle.std.proofs.Common.{ap}
use Rattle.read_judged.specs.Answers.{told, some_number}
use Rattle.read_salvage.specs.Loop.{count_kept, count_none}
use Rattle.read_salvage.proofs.salvage.kept_nodes.Goals as goal

pub returns-in-Ok : goal.returns-in-Ok
returns-in-Ok c = count_kept _ _ (ap told c.in-Ok.is)

pub returns-in-Err : goal.returns-in-Err
returns-in-Err c = rw c.in-Err.is (count_none _ _ (some_number _))
