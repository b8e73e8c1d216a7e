use Rattle.std.proofs.Common.{◌<◌}
use Rattle.program_files.proofs.number_in.Given as goal

abbrev pub invariant-loop-digit : goal.invariant-loop-digit
invariant-loop-digit l = l.n < 655360
