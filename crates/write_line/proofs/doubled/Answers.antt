use Rattle.std.proofs.Common.{◌∙◌}
use Rattle.write_line.specs.Normals.{doubled_is}
use Rattle.write_line.proofs.doubled.Goals as goal

pub returns : goal.returns
returns c = c.starts_with.ensures.value ∙ doubled_is c.args.path.now c.args.i
