use Rattle.std.proofs.Common.{◌≡◌, length}
use Rattle.tree_sorted.specs.Chains.{ClearTo, ChainStays}
use Rattle.tree_sorted.proofs.groups.clear_leads.Given as goal

abbrev pub invariant-loop-v : goal.invariant-loop-v
invariant-loop-v l = ClearTo l.sorted.lead l.v × ChainStays l.initial.sorted l.sorted × (length l.sorted.lead ≡ 4096)
