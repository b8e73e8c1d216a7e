use Rattle.std.proofs.Common.{◌≡◌, ◌-◌}
use Rattle.meaning.specs.Operations.{records_from}
use Rattle.read_walker.specs.Steps.{Steps}
use Rattle.read_walker.proofs.record_at.Given as goal

abbrev pub invariant-loop : goal.invariant-loop
invariant-loop l = record { walks : l.records.src.now ≡ l.input; steps : Steps (l.n - l.counter) l.records.at l.input (records_from l.n l.input) }
