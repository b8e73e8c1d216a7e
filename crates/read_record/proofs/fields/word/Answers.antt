use Rattle.std.proofs.Common.{arith}
use Rattle.meaning.specs.Records.{word}
use Rattle.read_record.proofs.fields.word.Goals as goal

pub returns : goal.returns
unfolding word
returns c = (omega (arith, c.from_le_bytes.ensures), omega arith)
