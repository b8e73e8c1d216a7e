use borrow.Author.Rules.{rules}
use mathlib.Core.Path.{refl}
use Rattle.theory_reduce.specs.Numbers.{listed_none}
use Rattle.write_chosen.specs.Dropping.{numbering_start, numbering_count, numbering_next, numbering_end}
use Rattle.write_chosen.proofs.numbers.dropped_numbers.Goals as goal

pub loop-n-init : goal.loop-n-init
loop-n-init c = numbering_start _ _ listed_none

pub number_if-dropped-requires : goal.number_if-dropped-requires
number_if-dropped-requires c = numbering_count c.requires.0 c.requires.1 c.loop-n.invariant c.loop-n-test.true

pub loop-n-preserved : goal.loop-n-preserved
loop-n-preserved c = numbering_next c.requires.0 c.requires.1 c.loop-n.invariant c.loop-n-test.true refl c.number_if-dropped.ensures

pub returns : goal.returns
returns c = numbering_end c.requires.0 c.requires.1 c.loop-n.invariant (search rules)
