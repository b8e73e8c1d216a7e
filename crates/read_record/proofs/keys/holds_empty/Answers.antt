use Rattle.read_record.specs.Hunts.{hunt_start, hunt_holds, hunt_found, hunt_next, hunt_done, empty_yes, empty_no}
use Rattle.read_record.proofs.keys.holds_empty.Goals as goal

pub loop-init : goal.loop-init
loop-init c = hunt_start _ c.count-n.ensures.0 c.paths-rest.ensures

pub lead_path-requires : goal.lead_path-requires
lead_path-requires c = search (hunt_holds)

pub returns-then-lead_path-eq0 : goal.returns-then-lead_path-eq0
returns-then-lead_path-eq0 c = search (hunt_found, empty_yes)

pub after_path-rest-requires : goal.after_path-rest-requires
after_path-rest-requires c = search (hunt_holds)

pub loop-preserved : goal.loop-preserved
loop-preserved c = search (hunt_next, empty_no)

pub returns : goal.returns
returns c = search (hunt_done)
