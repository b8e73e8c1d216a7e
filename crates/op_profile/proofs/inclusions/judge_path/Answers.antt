use Rattle.std.proofs.Common.{sym, ◌∙◌}
use Rattle.op_profile.specs.Judging.{path_stops}
use Rattle.op_profile.specs.Paths.{path_bad, path_invalid, path_good}
use Rattle.op_profile.proofs.inclusions.judge_path.Goals as goal

pub returns-then-not-good_path : goal.returns-then-not-good_path
returns-then-not-good_path c = path_stops (path_bad _ _ (sym c.good_path.ensures ∙ c.if-not-good_path.true))

pub returns-then-not-is_valid : goal.returns-then-not-is_valid
returns-then-not-is_valid c = path_stops (path_invalid _ _ (sym c.good_path.ensures ∙ c.if-not-good_path.false) (sym c.is_valid.ensures ∙ c.if-not-is_valid.true))

pub returns : goal.returns
returns c = sym (path_good _ _ (sym c.good_path.ensures ∙ c.if-not-good_path.false) (sym c.is_valid.ensures ∙ c.if-not-is_valid.false))
