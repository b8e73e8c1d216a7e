use Rattle.rule_needed.specs.Marked.{first_known, second_known}
use Rattle.write_trimmed.specs.Putting.{same_fields, one_field, two_fields}
use native.Mathlib.Omega.{arith}
use Rattle.write_trimmed.proofs.puts.renumbered.Goals as goal

pub returns-then-used-eq0 : goal.returns-then-used-eq0
returns-then-used-eq0 c = same_fields c.requires _ c.from.ensures c.premise_count-used.ensures c.word-first.ensures.0 c.word-second.ensures.0 c.if-used-eq0.true

pub bounds-moves-first : goal.bounds-moves-first
bounds-moves-first c = (first_known c.requires c.from.ensures c.premise_count-used.ensures c.if-used-eq0.false c.word-first.ensures.0).0

pub offset_bounds-moves-one : goal.offset_bounds-moves-one
offset_bounds-moves-one c = let h = (first_known c.requires c.from.ensures c.premise_count-used.ensures c.if-used-eq0.false c.word-first.ensures.0).1 in omega arith

pub bounds-moves-one : goal.bounds-moves-one
bounds-moves-one c = (first_known c.requires c.from.ensures c.premise_count-used.ensures c.if-used-eq0.false c.word-first.ensures.0).1

pub returns-then-used-eq1 : goal.returns-then-used-eq1
returns-then-used-eq1 c = one_field c.requires _ c.from.ensures c.premise_count-used.ensures c.word-first.ensures.0 c.word-second.ensures.0 c.if-used-eq1.true

pub bounds-moves-second : goal.bounds-moves-second
bounds-moves-second c = (second_known c.requires c.from.ensures c.premise_count-used.ensures c.if-used-eq0.false c.if-used-eq1.false c.word-second.ensures.0).0

pub offset_bounds-moves-one-2 : goal.offset_bounds-moves-one-2
offset_bounds-moves-one-2 c = let h = (first_known c.requires c.from.ensures c.premise_count-used.ensures c.if-used-eq0.false c.word-first.ensures.0).1 in omega arith

pub bounds-moves-one-2 : goal.bounds-moves-one-2
bounds-moves-one-2 c = (first_known c.requires c.from.ensures c.premise_count-used.ensures c.if-used-eq0.false c.word-first.ensures.0).1

pub offset_bounds-moves-two : goal.offset_bounds-moves-two
offset_bounds-moves-two c = let g = (first_known c.requires c.from.ensures c.premise_count-used.ensures c.if-used-eq0.false c.word-first.ensures.0).1 in let h = (second_known c.requires c.from.ensures c.premise_count-used.ensures c.if-used-eq0.false c.if-used-eq1.false c.word-second.ensures.0).1 in omega arith

pub bounds-moves-two : goal.bounds-moves-two
bounds-moves-two c = let g = (first_known c.requires c.from.ensures c.premise_count-used.ensures c.if-used-eq0.false c.word-first.ensures.0).1 in let h = (second_known c.requires c.from.ensures c.premise_count-used.ensures c.if-used-eq0.false c.if-used-eq1.false c.word-second.ensures.0).1 in omega arith

pub returns : goal.returns
returns c = two_fields c.requires _ c.from.ensures c.premise_count-used.ensures c.word-first.ensures.0 c.word-second.ensures.0 c.if-used-eq0.false c.if-used-eq1.false
