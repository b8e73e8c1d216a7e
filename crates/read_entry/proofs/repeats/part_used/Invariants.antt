use Rattle.std.proofs.Common.{◌-◌}
use Rattle.read_entry.specs.Repeats.{any_record, Search}
use Rattle.read_entry.proofs.repeats.part_used.Given as goal

abbrev pub invariant-loop : goal.invariant-loop
invariant-loop l = Search l.start l.part (l.count - l.counter) l.rest (any_record l.start l.part l.count l.bytes)
