use native.Mathlib.Omega.{arith}
use Rattle.op_lean.specs.Leaned.{accepted_keyed, accepted_cut, accepted_count}
use Rattle.op_lean.specs.Returns.{reduce_fills}
use borrow.Author.Rules.{rules}
use Rattle.op_lean.proofs.accepted.reduce_accepted.Goals as goal

pub reduction-stays-requires : goal.reduction-stays-requires
reduction-stays-requires c = accepted_keyed c.requires.0 c.record_at-part.ensures

pub put_lean-chosen-requires : goal.put_lean-chosen-requires
put_lean-chosen-requires c = accepted_cut c.requires.0 c.record_at-part.ensures c.reduction-stays.ensures (omega (arith, c.requires.1))

pub dropped_numbers-gone-requires : goal.dropped_numbers-gone-requires
dropped_numbers-gone-requires c = (accepted_count c.requires.0 c.record_at-part.ensures, c.reduction-stays.ensures.size)

pub returns : goal.returns
returns c = reduce_fills c.requires.0 _ c.requires.1 c.record_at-part.ensures c.reduction-stays.ensures c.put_lean-chosen.ensures c.dropped_numbers-gone.ensures
