use Rattle.op_tally.specs.Counting.{tally_of}
use mathlib.Core.Path.{refl}
use native.Mathlib.Omega.{arith}
use Rattle.write_report.specs.Lines.{field_as, keys_behind, refusals_behind, report_written}
use borrow.Author.Rules.{rules}
use Rattle.write_report.proofs.put_report.Goals as goal

pub put_refusals-after_refusals-requires : goal.put_refusals-after_refusals-requires
put_refusals-after_refusals-requires c = (search rules, search (keys_behind))

pub put-after_word-requires : goal.put-after_word-requires
put-after_word-requires c = let r = refusals_behind c.put_keys-after_keys.ensures c.put_refusals-after_refusals.ensures (search rules) (search rules) in omega arith

pub put_field-requires : goal.put_field-requires
put_field-requires c = (search rules, let r = refusals_behind c.put_keys-after_keys.ensures c.put_refusals-after_refusals.ensures (search rules) (search rules) in let w = c.put-after_word.ensures.after in let k = c.put-after_word.ensures.kept in omega arith)

pub returns : goal.returns
returns c = report_written (tally_of c.args.t) c.put_keys-after_keys.ensures c.put_refusals-after_refusals.ensures refl c.put-after_word.ensures (field_as _ c.from.ensures c.put_field.ensures)
