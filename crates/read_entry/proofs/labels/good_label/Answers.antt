use Rattle.read_entry.specs.Labels.{names_are, label_low, label_high, label_order, label_class, label_name, label_used}
use mathlib.Core.Path.{◌∙◌}
use native.Mathlib.Omega.{arith}
use borrow.Author.Rules.{rules}
use mathlib.Core.Path.{ap}
use mathlib.Core.Bool.{not}
use Rattle.read_entry.proofs.labels.good_label.Goals as goal

pub returns-then-number-lt-FIRST_DECLARED : goal.returns-then-number-lt-FIRST_DECLARED
returns-then-number-lt-FIRST_DECLARED c = label_low _ _ (omega (arith, c.from-number.ensures))

pub returns-then-number-gt-LAST_DECLARED : goal.returns-then-number-gt-LAST_DECLARED
returns-then-number-gt-LAST_DECLARED c = label_high _ _ (omega (arith, c.from-number.ensures))

pub returns-then-number-last : goal.returns-then-number-last
returns-then-number-last c = label_order _ _ c.requires.1 (omega (arith, c.from-number.ensures)) (omega (arith, c.from-number.ensures)) (omega (arith, c.from-number.ensures))

pub returns-then-not-is_class : goal.returns-then-not-is_class
returns-then-not-is_class c = label_class _ _ (record { highest = c.requires.1; low = omega (arith, c.from-number.ensures, c); high = omega (arith, c.from-number.ensures, c); order = omega (arith, c.from-number.ensures, c) }) c.from.ensures c.is_class.ensures (ap not c.if-not-is_class.true)

pub returns-then-not-is_name : goal.returns-then-not-is_name
returns-then-not-is_name c = label_name _ _ (record { highest = c.requires.1; low = omega (arith, c.from-number.ensures, c); high = omega (arith, c.from-number.ensures, c); order = omega (arith, c.from-number.ensures, c) }) c.from.ensures c.is_class.ensures (ap not c.if-not-is_class.false) c.is_name.ensures (ap not c.if-not-is_name.true)

pub part_used-requires : goal.part_used-requires
part_used-requires c = (omega arith, search rules)

pub returns : goal.returns
returns c = label_used _ _ (record { highest = c.requires.1; low = omega (arith, c.from-number.ensures, c); high = omega (arith, c.from-number.ensures, c); order = omega (arith, c.from-number.ensures, c) }) c.from.ensures c.is_class.ensures (ap not c.if-not-is_class.false) c.is_name.ensures (ap not c.if-not-is_name.false) (c.part_used.ensures ∙ names_are _ _ _)
