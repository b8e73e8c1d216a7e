use Rattle.std.proofs.Common.{arith}
use Rattle.write_bytes.specs.Wrote.{wrote_more, wrote_is}
use Rattle.write_listing.specs.Lines.{text_short, field_parts}
use Rattle.write_listing.proofs.put_field.Goals as goal

pub put_shown-next-requires : goal.put_shown-next-requires
put_shown-next-requires c = let d = text_short c.args.shown c.requires.0 in let r = c.requires.1 in omega arith

pub put-requires : goal.put-requires
put-requires c = let d = text_short c.args.shown c.requires.0 in let r = c.requires.1 in omega arith

pub returns : goal.returns
returns c = wrote_is (field_parts c.args.shown c.args.end) (wrote_more c.put_shown-next.ensures c.put.ensures)
