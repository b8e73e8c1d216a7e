use Rattle.std.proofs.Common.{rules, tests, sym, ◌∙◌, ◌++◌}
use Rattle.std.proofs.lemmas.Iterator.{YieldsList-from_zip}
use Rattle.std.proofs.lemmas.Iterator.Consumers.{YieldsList-from_first}
use Rattle.meaning.specs.Lists.{same}
use Rattle.read_record.specs.Library.{every_by}
use Rattle.read_record.specs.Seen.{seen}
use Rattle.rule_tests.specs.Walks.{other_lengths, side_by_side}
use Rattle.rule_tests.proofs.sets.is_prefixed.Goals as goal

pub returns-then-count : goal.returns-then-count
returns-then-count c =
    every_by (λ x. same x.0 (c.args.front.now ++ x.1)) _ c.all.ensures.ran
    (YieldsList-from_zip
    (YieldsList-from_first (λ y. y.now) (λ p. p) (seen c.args.p.now).paths (c.zip.ensures.first ∙ c.paths.ensures))
    (YieldsList-from_first (λ y. y.now) (λ p. p) (seen c.args.r.now).paths (c.zip.ensures.second ∙ c.paths-then-count.ensures)))
    (λ x b q k. search (rules, tests))
    ∙ side_by_side c.args.front.now (seen c.args.p.now).paths (seen c.args.r.now).paths
    (sym c.count.ensures.0 ∙ c.if-count.true ∙ c.count-2.ensures.0)

pub returns-else-count : goal.returns-else-count
returns-else-count c = other_lengths _ _ _ c.count.ensures.0 c.count-2.ensures.0 c.if-count.false
