use mathlib.Core.Logic.{⊎_elim}
use native.Mathlib.Omega.{arith}
use Rattle.op_decider.specs.Deciding.{may_search, body_reads, chain_few, may_draw, decides_tree, may_write, ends_at, ends_above, decides_proof}
use borrow.Author.Rules.{rules}
use mathlib.Core.Path.{ap}
use mathlib.Core.Bool.{not}
use Rattle.op_decider.proofs.decide_accepted.Goals.{else-u-chain_end-via-then-u-chain_end+else-not-steps_up, else-u-chain_end-via-else-u-chain_end}
use Rattle.op_decider.proofs.decide_accepted.Goals as goal

pub find_steps-found-requires : goal.find_steps-found-requires
find_steps-found-requires c = search (may_search)

pub chain_end-requires : goal.chain_end-requires
chain_end-requires c = search (body_reads)

pub steps_up-requires : goal.steps_up-requires
steps_up-requires c = (search (body_reads), let l = c.if-u-chain_end.true in let t = c.chain_end.ensures in let m = chain_few c.requires.0 c.body_at_front-body.ensures in omega arith)

pub write_tree-requires : goal.write_tree-requires
write_tree-requires c = (may_draw c.requires.0 c.body_at_front-body.ensures c.find_steps-found.ensures c.chain_end.ensures c.if-u-chain_end.true c.requires.1 c.steps_up.ensures (ap not c.if-not-steps_up.true), search rules)

pub returns-then-not-steps_up : goal.returns-then-not-steps_up
returns-then-not-steps_up c = decides_tree c.requires.0 c.body_at_front-body.ensures c.find_steps-found.ensures c.chain_end.ensures c.if-u-chain_end.true c.requires.1 c.steps_up.ensures (ap not c.if-not-steps_up.true) c.requires.2 c.write_tree.ensures

pub write_proof-requires : goal.write_proof-requires
write_proof-requires c = may_write c.requires.0 c.body_at_front-body.ensures c.find_steps-found.ensures c.chain_end.ensures (search rules)

pub returns : goal.returns
returns c = decides_proof c.requires.0 c.body_at_front-body.ensures c.find_steps-found.ensures c.chain_end.ensures (elim c.else-u-chain_end.branch [
  | else-u-chain_end-via-then-u-chain_end+else-not-steps_up w ↦ ends_above c.requires.0 c.body_at_front-body.ensures c.find_steps-found.ensures c.chain_end.ensures c.requires.1 w.steps_up.ensures (ap not w.if-not-steps_up.false)
  | else-u-chain_end-via-else-u-chain_end w ↦ ends_at c.requires.0 c.body_at_front-body.ensures c.find_steps-found.ensures c.chain_end.ensures w.if-u-chain_end.false
]) c.requires.2 c.write_proof.ensures
