use mathlib.Core.Path.{sym, ◌∙◌}
use Rattle.read_record.specs.Bodies.{key_context, key_target, key_set, set_empty, set_counted}
use borrow.Author.Rules.{rules}
use mathlib.Core.Path.{ap}
use mathlib.Core.Bool.{not}
use Rattle.read_record.proofs.bodies.key_shape.Goals as goal

pub returns-then-not-holds_path : goal.returns-then-not-holds_path
returns-then-not-holds_path c = key_context _ c.holds_path.ensures (ap not c.if-not-holds_path.true)

pub after_path-behind-requires : goal.after_path-behind-requires
after_path-behind-requires c = sym c.holds_path.ensures ∙ c.if-not-holds_path.false

pub returns-then-not-holds_path-2 : goal.returns-then-not-holds_path-2
returns-then-not-holds_path-2 c = key_target _ (sym c.holds_path.ensures ∙ c.if-not-holds_path.false) c.after_path-behind.ensures c.holds_path-2.ensures (ap not c.if-not-holds_path-2.true)

pub after_path-set-requires : goal.after_path-set-requires
after_path-set-requires c = sym c.holds_path-2.ensures ∙ c.if-not-holds_path-2.false

pub returns-then-set-eq0 : goal.returns-then-set-eq0
returns-then-set-eq0 c = set_empty _ (search rules) ∙ key_set _ (sym c.holds_path.ensures ∙ c.if-not-holds_path.false) c.after_path-behind.ensures (sym c.holds_path-2.ensures ∙ c.if-not-holds_path-2.false) c.after_path-set.ensures

pub returns : goal.returns
returns c = c.paths_end.ensures ∙ set_counted _ c.if-set-eq0.false c.from.ensures ∙ key_set _ (sym c.holds_path.ensures ∙ c.if-not-holds_path.false) c.after_path-behind.ensures (sym c.holds_path-2.ensures ∙ c.if-not-holds_path-2.false) c.after_path-set.ensures
