use Rattle.write_salvage.specs.Lines.{pairs_wrote}
use Rattle.write_salvage.proofs.lines.put_pairs.Goals as goal

pub returns : goal.returns
returns c = search (pairs_wrote)
