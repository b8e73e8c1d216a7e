use Rattle.std.proofs.Common.{refl}
use Rattle.write_pattern.specs.Entries.{blank_drew}
use Rattle.write_pattern.proofs.blank.Goals as goal

pub returns : goal.returns
returns c = blank_drew _ refl refl refl
