use Rattle.std.proofs.Common.{◌<◌, length, rules, tests}
use Rattle.theory_campaign.specs.Listings.{names_few}
use Rattle.read_names.specs.Names.{read_more, read_all, read_few, next_shorter}
use Rattle.read_names.proofs.name_count.Goals as goal

pub overflow_add-count : goal.overflow_add-count
overflow_add-count c =
    let some : 0 < length c.loop-rest.rest.now = search (rules, tests) in
    let f = read_few c.loop-rest.invariant some in
    let n = names_few c.args.list.now in
    search rules

pub loop-rest-smaller : goal.loop-rest-smaller
loop-rest-smaller c = let some : 0 < length c.loop-rest.rest.now = search (rules, tests) in next_shorter _ _ some c.after_name-rest.ensures

pub loop-rest-preserved : goal.loop-rest-preserved
loop-rest-preserved c = let some : 0 < length c.loop-rest.rest.now = search (rules, tests) in read_more c.loop-rest.invariant some c.after_name-rest.ensures

pub returns : goal.returns
returns c = read_all c.loop-rest.invariant (search (rules, tests))
