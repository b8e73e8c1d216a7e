use Rattle.write_line.specs.LineParts.{head_wrote}
use Rattle.write_line.proofs.put_head.Goals as goal

pub returns : goal.returns
returns c = head_wrote _ _ _ _ c.put_word.ensures c.put_word-second_at.ensures c.put_number-first_at.ensures c.put_word-rule_at.ensures c.put_word-kind_at.ensures
