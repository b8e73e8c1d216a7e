use Rattle.step_search.specs.Firing.{target_not, context_last}
use Rattle.step_search.proofs.firing.fires_to.Goals as goal

pub returns-then-member : goal.returns-then-member
returns-then-member c = search context_last

pub returns-else-member : goal.returns-else-member
returns-else-member c = search target_not
