use Rattle.rule_tests.specs.RuleLaws.{cut_sub, cut_normal, cut_first, cut_none, cut_within, cut_second}
use Rattle.rule_tests.proofs.rules.cut_context.Goals as goal

pub overflow_sub-cut : goal.overflow_sub-cut
overflow_sub-cut c = search cut_sub

pub join_is-requires : goal.join_is-requires
join_is-requires c = search cut_normal

pub slice_bounds-join_is-end-then-starts_any : goal.slice_bounds-join_is-end-then-starts_any
slice_bounds-join_is-end-then-starts_any c = search cut_within

pub join_is-requires-then-starts_any : goal.join_is-requires-then-starts_any
join_is-requires-then-starts_any c = search cut_normal

pub returns-then-join_is : goal.returns-then-join_is
returns-then-join_is c = search cut_first

pub returns-then-starts_any : goal.returns-then-starts_any
returns-then-starts_any c = search cut_second

pub returns-else-starts_any : goal.returns-else-starts_any
returns-else-starts_any c = search cut_none
