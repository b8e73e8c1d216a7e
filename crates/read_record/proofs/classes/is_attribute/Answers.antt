use Rattle.std.proofs.Common.{sym, arith}
use Rattle.read_record.specs.ClassTests.{text_no_attribute, filler_attribute_lem, table_attribute}
use Rattle.read_record.proofs.classes.is_attribute.Goals as goal

pub returns-in-1 : goal.returns-in-1
returns-in-1 c = sym (text_no_attribute _ _ c.in-1.is)

pub returns-in-202 : goal.returns-in-202
returns-in-202 c = sym (filler_attribute_lem _ _ (omega arith) c.in-202.is)

pub returns-in_default : goal.returns-in_default
returns-in_default c = table_attribute _ _ (omega arith) (omega arith)
