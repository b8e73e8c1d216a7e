use Rattle.std.proofs.Common.{ap, ◌∙◌, not, arith}
use Rattle.std.proofs.lemmas.Bool.Decides.{nat_tests}
use Rattle.read_record.specs.ClassTests.{element_told, text_no_element}
use Rattle.read_record.proofs.classes.is_element.Goals as goal

pub returns-then-label-ne-TEXT : goal.returns-then-label-ne-TEXT
returns-then-label-ne-TEXT c = ap not c.is_attribute.ensures ∙ element_told _ _ c.if-label-ne-TEXT.true

pub returns-else-label-ne-TEXT : goal.returns-else-label-ne-TEXT
returns-else-label-ne-TEXT c = let e = text_no_element c.args.classes.now _ c.if-label-ne-TEXT.false in grind (arith, nat_tests)
