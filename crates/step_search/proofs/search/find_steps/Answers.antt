use Rattle.std.proofs.Common.{rules, refl}
use Rattle.step_search.specs.Finding.{search_part, found_part, taking_start, taking_room, taking_next, taking_none, taking_end}
use Rattle.step_search.proofs.search.find_steps.Goals as goal

pub loop-u-init : goal.loop-u-init
loop-u-init c = taking_start (search_part c.record_at-part.ensures c.requires) c.chain_end-t.ensures c.context-u.ensures refl

pub returns-in_default : goal.returns-in_default
returns-in_default c =
    found_part c.record_at-part.ensures
    (taking_none (search_part c.record_at-part.ensures c.requires) c.loop-u.invariant c.loop-u-test.true (search rules))

pub bounds-steps-count : goal.bounds-steps-count
bounds-steps-count c = taking_room (search_part c.record_at-part.ensures c.requires) c.loop-u.invariant c.loop-u-test.true

pub loop-u-preserved : goal.loop-u-preserved
loop-u-preserved c =
    taking_next (search_part c.record_at-part.ensures c.requires) c.loop-u.invariant c.loop-u-test.true (search rules) (search rules)

pub returns : goal.returns
returns c =
    found_part c.record_at-part.ensures
    (taking_end (search_part c.record_at-part.ensures c.requires) c.loop-u.invariant c.loop-u-test.false)
