use Rattle.write_salvage.specs.Lines.{witness_wrote}
use Rattle.write_salvage.proofs.lines.put_witness.Goals as goal

pub returns : goal.returns
returns c = search (witness_wrote)
