use Rattle.write_bytes.specs.Wrote.{wrote_byte}
use Rattle.write_line.proofs.put_number.Goals as goal

pub returns : goal.returns
returns c = search (wrote_byte)
