use Rattle.std.proofs.Common.{◌-◌}
use Rattle.meaning.specs.Paths.{normal}
use Rattle.read_key.specs.Symbols.{NormalAt}
use Rattle.read_key.proofs.symbols.is_normal.Given as goal

abbrev pub invariant-loop-i : goal.invariant-loop-i
invariant-loop-i l = NormalAt l.p (l.i - 1) (normal l.p)
