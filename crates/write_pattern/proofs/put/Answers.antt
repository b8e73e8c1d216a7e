use Rattle.std.proofs.Common.{arith}
use Rattle.write_pattern.specs.Entries.{entered}
use Rattle.write_pattern.proofs.put.Goals as goal

pub returns : goal.returns
returns c = entered c.args.drawing c.args.entry c.args.above c.requires.sized (let h = c.requires.room in omega arith)
