use Rattle.std.proofs.Common.{ap, arith, not}
use Rattle.theory_records.specs.HeadTests.{head_many, head_torn, head_other, head_more}
use Rattle.theory_records.specs.Heads.{passed}
use Rattle.meaning.specs.Refusals.{first_of}
use Rattle.read_entry.proofs.keys.judge_head.Goals as goal

pub returns-then-too_many : goal.returns-then-too_many
returns-then-too_many c = head_many _ _ _ _ _ c.too_many.ensures c.if-too_many.true

pub returns-then-not-whole : goal.returns-then-not-whole
returns-then-not-whole c = head_torn _ _ _ _ _ c.too_many.ensures c.if-too_many.false c.whole.ensures (ap not c.if-not-whole.true)

pub word-requires : goal.word-requires
word-requires c = omega (arith, passed _ c.whole.ensures (ap not c.if-not-whole.false))

pub returns-then-word-kind : goal.returns-then-word-kind
returns-then-word-kind c = head_other _ _ _ _ _ c.too_many.ensures c.if-too_many.false c.whole.ensures (ap not c.if-not-whole.false) c.word.ensures.0 c.if-word-kind.true

pub returns : goal.returns
unfolding first_of
returns c = head_more _ _ _ _ _ c.too_many.ensures c.if-too_many.false c.whole.ensures (ap not c.if-not-whole.false) c.word.ensures.0 c.if-word-kind.false
