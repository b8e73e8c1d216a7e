use Rattle.op_lean.specs.Leaned.{cut_room}
use native.Mathlib.Omega.{arith}
use mathlib.Core.Path.{sym}
use lib.Seq.{length-take-le}
use Rattle.theory_records.specs.Bytes.{bytes_from}
use Rattle.op_lean.specs.Leaned.{cut_within, cut_choosable, cut_lean}
use borrow.Author.Rules.{rules}
use Rattle.op_lean.proofs.accepted.put_lean.Goals as goal

pub overflow_sub-before : goal.overflow_sub-before
overflow_sub-before c = cut_within c.requires

pub slice_bounds-put-end : goal.slice_bounds-put-end
slice_bounds-put-end c = sym (length-take-le _ _ (omega arith))

pub put-at-requires : goal.put-at-requires
put-at-requires c = cut_room c.requires

pub put_chosen-requires : goal.put_chosen-requires
put_chosen-requires c = (cut_choosable c.requires (bytes_from _ (λ i h. (c.shared_slice_known-1.given i).fits)) c.put-at.ensures, c.requires.size)

pub returns : goal.returns
returns c = cut_lean c.requires (bytes_from _ (λ i h. (c.shared_slice_known-1.given i).fits)) c.put-at.ensures c.put_chosen.ensures
