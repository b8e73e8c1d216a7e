use Rattle.rule_premises.specs.Premises.{line_start}
use Rattle.rule_premises.proofs.line_key.Goals as goal

pub slice_bounds-result-count : goal.slice_bounds-result-count
slice_bounds-result-count c = line_start c.requires c.record_at-rest.ensures c.word-end.ensures.0

pub slice_bounds-result-start : goal.slice_bounds-result-start
slice_bounds-result-start c = search line_start
