use Rattle.std.proofs.Common.{arith}
use Rattle.rule_stands.specs.Standing.{line_low, line_end, body_there}
use Rattle.rule_stands.proofs.stands.line_body.Goals as goal

pub slice_bounds-result-count : goal.slice_bounds-result-count
slice_bounds-result-count c = let h = line_low c.requires c.word.ensures.0 in omega arith

pub slice_bounds-result-start : goal.slice_bounds-result-start
slice_bounds-result-start c = let h = line_low c.requires c.word.ensures.0 in omega arith

pub slice_bounds-result-end : goal.slice_bounds-result-end
slice_bounds-result-end c = line_end c.requires c.word.ensures.0

pub returns : goal.returns
returns c = body_there c.requires c.word.ensures.0
