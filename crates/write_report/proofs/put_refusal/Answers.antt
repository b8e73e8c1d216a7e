use native.Mathlib.Omega.{arith}
use Rattle.write_report.specs.Lines.{field_as, field_room, two_none, two_written}
use borrow.Author.Rules.{rules}
use Rattle.write_report.proofs.put_refusal.Goals as goal

pub returns-then-count-eq0 : goal.returns-then-count-eq0
returns-then-count-eq0 c = two_none _ _ _ _ (search rules) (search rules)

pub put_field-requires : goal.put_field-requires
put_field-requires c = (search rules, field_room _ _ _ (omega arith) c.put_field-after_number.ensures (omega arith))

pub returns : goal.returns
returns c = two_written (omega arith) (search rules) (search rules) c.put_field-after_number.ensures (field_as _ c.from.ensures c.put_field.ensures)
