use Rattle.std.proofs.Common.{rules, tests, ◌∙◌, eqb}
use Rattle.std.proofs.lemmas.Iterator.{YieldsList-from_slice}
use Rattle.std.proofs.lemmas.Iterator.Search.{position_from_yields_List}
use Rattle.read_text.specs.Cutting.{end_within, end_before, end_behind}
use Rattle.read_text.proofs.cut.cut_at.Goals as goal

pub split_at-requires : goal.split_at-requires
split_at-requires c =
    end_within c.args.stop _
    (position_from_yields_List (λ b. eqb b c.args.stop) _ _ _ c.position.ensures.ran (YieldsList-from_slice _ cc) (λ x b q k. search (rules, tests)))
    c.unwrap_or-end.ensures

pub returns-clause-before : goal.returns-clause-before
returns-clause-before c =
    c.split_at.ensures.front
    ∙ end_before c.args.stop _
    (position_from_yields_List (λ b. eqb b c.args.stop) _ _ _ c.position.ensures.ran (YieldsList-from_slice _ cc) (λ x b q k. search (rules, tests)))
    c.unwrap_or-end.ensures

pub returns-clause-behind : goal.returns-clause-behind
returns-clause-behind c =
    c.split_at.ensures.back
    ∙ end_behind c.args.stop _
    (position_from_yields_List (λ b. eqb b c.args.stop) _ _ _ c.position.ensures.ran (YieldsList-from_slice _ cc) (λ x b q k. search (rules, tests)))
    c.unwrap_or-end.ensures
