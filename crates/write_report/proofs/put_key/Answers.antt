use native.Mathlib.Omega.{arith}
use Rattle.write_report.specs.Lines.{field_as, field_room, three_written}
use borrow.Author.Rules.{rules}
use Rattle.write_report.proofs.put_key.Goals as goal

pub put_field-after_kept-requires : goal.put_field-after_kept-requires
put_field-after_kept-requires c = (search rules, field_room _ _ _ (omega arith) c.put_field-after_number.ensures (omega arith))

pub put_field-requires : goal.put_field-requires
put_field-requires c = (search rules, let r = field_room _ _ 22 (omega arith) c.put_field-after_number.ensures (omega arith) in field_room _ _ _ (search rules) c.put_field-after_kept.ensures (omega arith))

pub returns : goal.returns
returns c = three_written (omega arith) (search rules) (search rules) c.put_field-after_number.ensures (field_as _ c.from.ensures c.put_field-after_kept.ensures) (field_as _ c.from-2.ensures c.put_field.ensures)
