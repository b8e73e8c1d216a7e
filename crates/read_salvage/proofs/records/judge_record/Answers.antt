use native.Mathlib.Omega.{arith}
use borrow.Author.Rules.{rules}
use mathlib.Core.Path.{sym}
use lib.Seq.{length-take-le}
use Rattle.theory_records.specs.Heads.{whole_says}
use Rattle.read_salvage.specs.Moved.{node_here, node_room, node_at, record_other, record_same}
use Rattle.read_salvage.proofs.records.judge_record.Goals as goal

pub word-requires : goal.word-requires
word-requires c = let w = (whole_says _ c.requires.4).head in omega arith

pub returns-then-word-kind : goal.returns-then-word-kind
returns-then-word-kind c = record_other _ _ _ _ _ _ _ _ c.word.ensures.0 c.if-word-kind.true

pub overflow_mul-at : goal.overflow_mul-at
overflow_mul-at c = let p = c.requires.1 in let e = node_at _ _ c.args.counts.nodes c.bytes_of.ensures.0 in search rules

pub word-end-requires : goal.word-end-requires
word-end-requires c = let w = (whole_says _ c.requires.4).head in omega arith

pub word-old-requires : goal.word-old-requires
word-old-requires c = let h = node_here c.requires.0 _ c.requires.4 c.word.ensures.0 c.if-word-kind.false in let a = h.within in let b = h.some in omega arith

pub slice_bounds-put_moved-end : goal.slice_bounds-put_moved-end
slice_bounds-put_moved-end c = let h = node_here c.requires.0 _ c.requires.4 c.word.ensures.0 c.if-word-kind.false in let a = h.within in let b = h.long in let e = c.word-end.ensures.0 in sym (length-take-le _ _ (omega arith))

pub put_moved-requires : goal.put_moved-requires
put_moved-requires c = let h = node_here c.requires.0 _ c.requires.4 c.word.ensures.0 c.if-word-kind.false in node_room h c.word-end.ensures.0 _ _ _ c.bytes_of.ensures.0 c.requires.1

pub judge_put-requires : goal.judge_put-requires
judge_put-requires c = let e = node_at _ _ c.args.counts.nodes c.bytes_of.ensures.0 in let p = c.requires.1 in let k = c.put_moved.ensures.kept in (c.requires.0, e, omega arith)

pub returns : goal.returns
returns c = record_same _ _ _ _ _ _ _ _ c.word.ensures.0 c.if-word-kind.false _ c.bytes_of.ensures.0 c.word-end.ensures.0 c.word-old.ensures.0 c.new_parent-parent.ensures.0 c.put_moved.ensures c.judge_put.ensures
