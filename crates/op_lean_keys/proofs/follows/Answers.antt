use native.Mathlib.Omega.{arith}
use Rattle.op_lean_keys.specs.Searching.{asking_search, asking_few, follows_up, follows_end}
use borrow.Author.Rules.{rules}
use Rattle.op_lean_keys.proofs.follows.Goals as goal

pub find_steps-found-requires : goal.find_steps-found-requires
find_steps-found-requires c = asking_search c.requires

pub steps_up-requires : goal.steps_up-requires
steps_up-requires c = (c.requires.reads, omega (arith, asking_few c.requires, c.chain_end.ensures, c.if-u-chain_end.true))

pub returns-then-u-chain_end : goal.returns-then-u-chain_end
returns-then-u-chain_end c = follows_up c.requires _ c.find_steps-found.ensures c.chain_end.ensures c.if-u-chain_end.true c.steps_up.ensures

pub returns : goal.returns
returns c = follows_end c.requires _ c.find_steps-found.ensures c.chain_end.ensures (search rules)
