use Rattle.step_landings.specs.Landing.{spot_chain, spot_has, spot_on, lands_some, lands_branch}
use Rattle.step_landings.proofs.lands.Goals as goal

pub lands_some-requires : goal.lands_some-requires
lands_some-requires c = search spot_chain

pub returns-then-k-chain_end : goal.returns-then-k-chain_end
returns-then-k-chain_end c = lands_some c.requires c.chain_end.ensures c.if-k-chain_end.true _ c.lands_some.ensures

pub row-requires : goal.row-requires
row-requires c = search spot_has

pub lands_in-requires : goal.lands_in-requires
lands_in-requires c = spot_on c.requires c.chain_end.ensures c.row.ensures

pub returns : goal.returns
returns c = lands_branch c.requires c.chain_end.ensures c.if-k-chain_end.false _ c.row.ensures c.lands_in.ensures
