use Rattle.std.proofs.Common.{◌-◌}
use Rattle.step_search.specs.Finding.{Taking}
use Rattle.step_search.proofs.search.find_steps.Given as goal

abbrev pub invariant-loop-u : goal.invariant-loop-u
invariant-loop-u l = Taking l.part l.keys l.asked l.t l.u l.count l.steps

abbrev pub decreases-loop-u : goal.decreases-loop-u
decreases-loop-u l = l.t - l.u
