use Rattle.write_salvage.specs.Lines.{pair_shown, pair_none}
use Rattle.write_salvage.proofs.lines.put_pair.Goals as goal

pub returns-then-shown : goal.returns-then-shown
returns-then-shown c = search (pair_shown)

pub returns : goal.returns
returns c = search (pair_none)
