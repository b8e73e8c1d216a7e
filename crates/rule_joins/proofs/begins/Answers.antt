use Rattle.std.proofs.Common.{◌∙◌}
use Rattle.read_record.specs.Library.{same_list}
use Rattle.rule_joins.specs.Forms.{too_long, begun}
use Rattle.rule_joins.proofs.begins.Goals as goal

pub returns-then-p-s : goal.returns-then-p-s
returns-then-p-s c = search too_long

pub returns : goal.returns
returns c = begun _ _ _ (c.eq.ensures ∙ same_list _ _)
