use Rattle.write_line.specs.LineParts.{word_wrote}
use Rattle.write_bytes.specs.Wrote.{wrote_is}
use Rattle.write_line.proofs.put_word.Goals as goal

pub returns : goal.returns
returns c = word_wrote c.args.n (wrote_is c.to_le_bytes.ensures c.put.ensures)
