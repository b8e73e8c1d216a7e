use Rattle.std.proofs.Common.{◌<◌, length, arith, rules, tests}
use Rattle.theory_campaign.specs.Listings.{names_few}
use Rattle.read_names.specs.Names.{read_few, next_shorter}
use Rattle.program_campaign.specs.Inputs.{counting_start, counting_more, counting_end}
use Rattle.program_campaign.proofs.count_names.Goals as goal

pub loop-rest-init : goal.loop-rest-init
loop-rest-init g c = counting_start _ _ c.no_counts-t.ensures

pub overflow_add-done : goal.overflow_add-done
overflow_add-done g c =
    let some : 0 < length c.loop-rest.rest.now = search (rules, tests) in
    let f = read_few c.loop-rest.invariant.names some in
    let n = names_few c.args.list.now in
    omega arith

pub loop-rest-smaller : goal.loop-rest-smaller
loop-rest-smaller g c = let some : 0 < length c.loop-rest.rest.now = search (rules, tests) in next_shorter _ _ some c.after_name-rest.ensures

pub loop-rest-preserved : goal.loop-rest-preserved
loop-rest-preserved g c =
    let some : 0 < length c.loop-rest.rest.now = search (rules, tests) in
    counting_more c.loop-rest.invariant some c.count_name-t.ensures c.after_name-rest.ensures

pub returns : goal.returns
returns g c = counting_end c.loop-rest.invariant (search (rules, tests))
