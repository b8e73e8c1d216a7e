use Rattle.write_proof.specs.Whole.{chain_is_t, opening_short, on_chain, on_empty, on_end}
use Rattle.write_proof.specs.Asks.{opening_fits, step_fits, at_node}
use native.Mathlib.Omega.{arith}
use Rattle.theory_pattern.specs.Spots.{holds_empty}
use Rattle.write_proof.proofs.write_on.Goals as goal

pub write_opening-requires : goal.write_opening-requires
write_opening-requires c = opening_fits c.requires

pub write_chain-requires : goal.write_chain-requires
write_chain-requires c = ((step_fits c.requires (opening_short _ _ _ _ _ _ c.write_opening.ensures) c.write_opening.ensures.wrote.kept (chain_is_t _ c.context.ensures c.target.ensures) (omega arith)), c.if-spot-chain.true, c.requires.cited_key)

pub returns-then-spot-chain : goal.returns-then-spot-chain
returns-then-spot-chain c = on_chain _ _ _ _ _ _ _ (chain_is_t _ c.context.ensures c.target.ensures) c.write_opening.ensures c.if-spot-chain.true c.write_chain.ensures

pub write_empty-requires : goal.write_empty-requires
write_empty-requires c = ((step_fits c.requires (opening_short _ _ _ _ _ _ c.write_opening.ensures) c.write_opening.ensures.wrote.kept (chain_is_t _ c.context.ensures c.target.ensures) (omega arith)), c.requires.cited_key)

pub returns-then-holds_empty : goal.returns-then-holds_empty
unfolding holds_empty
returns-then-holds_empty c = on_empty _ _ _ _ _ _ _ (chain_is_t _ c.context.ensures c.target.ensures) c.write_opening.ensures c.if-spot-chain.false c.holds_empty.ensures c.if-holds_empty.true c.write_empty.ensures

pub write_end-requires : goal.write_end-requires
write_end-requires c = at_node (step_fits c.requires (opening_short _ _ _ _ _ _ c.write_opening.ensures) c.write_opening.ensures.wrote.kept (chain_is_t _ c.context.ensures c.target.ensures) (omega arith))

pub returns : goal.returns
unfolding holds_empty
returns c = on_end _ _ _ _ _ _ _ (chain_is_t _ c.context.ensures c.target.ensures) c.write_opening.ensures c.if-spot-chain.false c.holds_empty.ensures c.if-holds_empty.false c.write_end.ensures
