use Rattle.std.proofs.Common.{rules, tests, sym, ◌∙◌, ap}
use Rattle.std.proofs.lemmas.Iterator.{YieldsList-from_slice}
use borrow.Author.Rules.{part_to_end}
use Rattle.meaning.specs.Lists.{every}
use Rattle.meaning.specs.Refusals.{in_name}
use Rattle.read_record.specs.Library.{every_by}
use Rattle.read_record.specs.Names.{name_empty, name_long, name_first, name_rest}
use Rattle.read_record.proofs.names.is_name.Goals as goal

pub returns-then-is_empty : goal.returns-then-is_empty
returns-then-is_empty c = name_empty _ (search (rules, tests))

pub returns-then-name-gt-LONGEST_NAME : goal.returns-then-name-gt-LONGEST_NAME
returns-then-name-gt-LONGEST_NAME c = name_long _ c.if-name-gt-LONGEST_NAME.true

pub returns-then-not-is_letter : goal.returns-then-not-is_letter
returns-then-not-is_letter c = name_first _ (search (rules, tests)) (sym c.is_letter.ensures ∙ c.if-not-is_letter.true)

pub returns : goal.returns
returns c =
    every_by in_name _ c.all.ensures.ran (YieldsList-from_slice _ cc) (λ x b q k. search (rules, tests))
    ∙ ap (every in_name) (part_to_end c.args.name.now 1)
    ∙ name_rest _ (search (rules, tests)) c.if-name-gt-LONGEST_NAME.false (sym c.is_letter.ensures ∙ c.if-not-is_letter.false)
