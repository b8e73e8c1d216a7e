use Rattle.write_pattern.specs.Sketch.{dressed}
use Rattle.write_pattern.specs.Entries.{added_element, added_leaf}
use Rattle.write_pattern.proofs.add.Goals as goal

pub returns-then-not-is_element : goal.returns-then-not-is_element
unfolding dressed
returns-then-not-is_element c = added_leaf _ _ _ _ c.from.ensures c.is_element.ensures c.if-not-is_element.true c.put-own.ensures

pub returns : goal.returns
unfolding dressed
returns c = added_element _ _ _ _ c.from.ensures c.is_element.ensures c.if-not-is_element.false c.put-own.ensures c.put.ensures
