use mathlib.Core.Path.{sym, ◌∙◌}
use native.Mathlib.Omega.{arith}
use Rattle.read_tree.specs.Nodes.{seeking_start, seeking_found, seeking_next, seeking_none, parent_fits}
use Rattle.read_tree.proofs.nodes.has_twin.Goals as goal

pub loop-i-init : goal.loop-i-init
loop-i-init c = seeking_start _ _ _ _ (omega arith)

pub is_twin-requires : goal.is_twin-requires
is_twin-requires c = let f = parent_fits c.args.long c.loop-i.i c.args.nodes c.loop-i-test.true in let p = c.requires in let y = p.0 in let z = p.1 in (y, omega arith)

pub returns-then-is_twin : goal.returns-then-is_twin
returns-then-is_twin c = seeking_found c.loop-i.invariant c.loop-i-test.true (sym c.is_twin.ensures ∙ c.if-is_twin.true)

pub loop-i-preserved : goal.loop-i-preserved
loop-i-preserved c = seeking_next c.loop-i.invariant c.loop-i-test.true (sym c.is_twin.ensures ∙ c.if-is_twin.false)

pub returns : goal.returns
returns c = seeking_none c.loop-i.invariant c.loop-i-test.false
