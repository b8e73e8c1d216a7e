use borrow.Author.Rules.{rules}
use mathlib.Core.Path.{sym, ◌∙◌}
use borrow.Author.Rules.{part_to_end}
use Rattle.op_profile.specs.Fronts.{front_few, front_short, front_cut}
use mathlib.Core.Path.{sym, ◌∙◌}
use borrow.Author.Rules.{part_to_end}
use Rattle.op_profile.specs.Fronts.{front_few, front_short, front_cut}
use borrow.Author.Rules.{rules}
use Rattle.theory_records.specs.HeadTests.{body_part}
use Rattle.op_profile.proofs.profiles.body_at_front.Goals as goal

pub returns-then-rest-lt-HEAD_BYTES : goal.returns-then-rest-lt-HEAD_BYTES
returns-then-rest-lt-HEAD_BYTES c = sym (front_few _ (search rules))

pub returns-then-end-lt-HEAD_BYTES : goal.returns-then-end-lt-HEAD_BYTES
returns-then-end-lt-HEAD_BYTES c = front_short _ _ c.word-end.ensures.0 (search rules)

pub returns-then-rest-end : goal.returns-then-rest-end
returns-then-rest-end c = part_to_end c.args.rest.now 4 ∙ front_cut _ _ c.word-end.ensures.0 (search rules)

pub returns : goal.returns
returns c = body_part _ c.word-end.ensures.0
