use Rattle.std.proofs.Common.{◌∙◌, rules, tests}
use Rattle.read_record.specs.Classes.{class_by}
use Rattle.read_record.specs.Library.{every_from_all}
use Rattle.read_key.specs.Validity.{behind, all_behind}
use Rattle.read_key.proofs.validity.all_valid.Goals as goal

pub returns : goal.returns
returns c =
    every_from_all (behind (class_by c.args.classes.now) c.both_inner-front_inner.result c.both_valid-front_valid.result) _ c.paths.ensures
    c.all.ensures.ran (λ x b q k. search (rules, tests))
    ∙ all_behind _ _ c.context-c.ensures c.target-t.ensures c.both_inner-front_inner.ensures c.both_valid-front_valid.ensures
