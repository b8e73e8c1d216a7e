use Rattle.read_key.specs.Refusing.{refuses_four, refuses_five, refuses_six, refuses_none}
use mathlib.Core.Path.{ap}
use mathlib.Core.Bool.{not}
use Rattle.read_key.proofs.refusal.key_refusal.Goals as goal

pub returns-then-not-good_symbols : goal.returns-then-not-good_symbols
returns-then-not-good_symbols c = refuses_four _ _ _ _ _ c.good_symbols.ensures (ap not c.if-not-good_symbols.true)

pub returns-then-not-good_set : goal.returns-then-not-good_set
returns-then-not-good_set c = refuses_five _ _ _ _ _ c.good_symbols.ensures (ap not c.if-not-good_symbols.false) c.good_set.ensures (ap not c.if-not-good_set.true)

pub returns-then-not-all_valid : goal.returns-then-not-all_valid
returns-then-not-all_valid c = refuses_six _ _ _ _ _ c.good_symbols.ensures (ap not c.if-not-good_symbols.false) c.good_set.ensures (ap not c.if-not-good_set.false) c.all_valid.ensures (ap not c.if-not-all_valid.true)

pub returns : goal.returns
returns c = refuses_none _ _ _ _ _ c.good_symbols.ensures (ap not c.if-not-good_symbols.false) c.good_set.ensures (ap not c.if-not-good_set.false) c.all_valid.ensures (ap not c.if-not-all_valid.false)
