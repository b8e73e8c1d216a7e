use Rattle.std.proofs.Common.{refl, arith}
use Rattle.theory_pattern.specs.Spots.{holds_empty}
use Rattle.write_proof.specs.Sizes.{size_chain_empty, size_chain, size_empty, size_end}
use Rattle.write_proof.specs.Whole.{chain_is_t}
use Rattle.write_proof.proofs.step_size.Goals as goal

pub returns-in-true-true : goal.returns-in-true-true
unfolding holds_empty
returns-in-true-true c = size_chain_empty _ _ (chain_is_t _ c.context.ensures c.target.ensures) c.in-true-true.ensures (omega arith) refl

pub returns-in-true-false : goal.returns-in-true-false
unfolding holds_empty
returns-in-true-false c = size_chain _ _ (chain_is_t _ c.context.ensures c.target.ensures) c.in-true-false.ensures (omega arith) refl

pub returns-in-false-true : goal.returns-in-false-true
unfolding holds_empty
returns-in-false-true c = size_empty _ _ (chain_is_t _ c.context.ensures c.target.ensures) c.in-false-true.ensures (omega arith) refl

pub returns-in-false-false : goal.returns-in-false-false
unfolding holds_empty
returns-in-false-false c = size_end _ _ (chain_is_t _ c.context.ensures c.target.ensures) c.in-false-false.ensures (omega arith) refl
