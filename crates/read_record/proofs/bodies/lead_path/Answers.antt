use Rattle.read_record.specs.Bodies.{path_fits, lead_part}
use native.Mathlib.Omega.{arith}
use Rattle.read_record.proofs.bodies.lead_path.Goals as goal

-- `read_record::bodies::lead_path` meets its contract. One law of specs/ for each return.
pub bounds-l-0 : goal.bounds-l-0
bounds-l-0 c = omega (arith, path_fits _ c.requires)

pub slice_bounds-result-end : goal.slice_bounds-result-end
slice_bounds-result-end c = omega (arith, path_fits _ c.requires)

pub returns : goal.returns
returns c = lead_part _ c.requires c.from-end.ensures
