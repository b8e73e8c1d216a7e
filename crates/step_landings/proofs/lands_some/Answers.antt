use Rattle.step_landings.specs.Landing.{sweep_start, sweep_below, sweep_hit, sweep_miss, sweep_done, chain_has, chain_on, chain_lands}
use borrow.Author.Rules.{rules}
use Rattle.step_landings.proofs.lands_some.Goals as goal

pub loop-j-init : goal.loop-j-init
loop-j-init c = sweep_start _ c.count-j-end.ensures.0

pub row-requires : goal.row-requires
row-requires c = chain_has c.requires (sweep_below c.loop-j.invariant (search rules))

pub lands_in-requires : goal.lands_in-requires
lands_in-requires c = chain_on c.requires (sweep_below c.loop-j.invariant (search rules)) c.row.ensures

pub returns-then-lands_in : goal.returns-then-lands_in
returns-then-lands_in c = sweep_hit c.loop-j.invariant (search rules) (chain_lands c.requires (sweep_below c.loop-j.invariant (search rules)) _ c.row.ensures c.lands_in.ensures) c.if-lands_in.true

pub loop-j-preserved : goal.loop-j-preserved
loop-j-preserved c = sweep_miss c.loop-j.invariant (search rules) (chain_lands c.requires (sweep_below c.loop-j.invariant (search rules)) _ c.row.ensures c.lands_in.ensures) c.if-lands_in.false

pub returns : goal.returns
returns c = search sweep_done
