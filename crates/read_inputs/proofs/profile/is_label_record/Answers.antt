use Rattle.read_inputs.specs.ProfileWalks.{label_torn, label_kind}
use Rattle.theory_records.specs.Heads.{passed}
use native.Mathlib.Omega.{arith}
use borrow.Author.Rules.{rules}
use mathlib.Core.Path.{ap}
use mathlib.Core.Bool.{not}
use Rattle.read_inputs.proofs.profile.is_label_record.Goals as goal

pub returns-then-not-whole : goal.returns-then-not-whole
returns-then-not-whole c = label_torn _ c.whole.ensures (ap not c.if-not-whole.true)

pub word-requires : goal.word-requires
word-requires c = omega (arith, passed _ c.whole.ensures (ap not c.if-not-whole.false))

pub returns : goal.returns
returns c = label_kind _ c.whole.ensures (ap not c.if-not-whole.false) c.word.ensures.0
