use Rattle.read_record.specs.Bodies.{path_fits, after_part}
use native.Mathlib.Omega.{arith}
use Rattle.read_record.proofs.bodies.after_path.Goals as goal

-- `read_record::bodies::after_path` meets its contract. One law of specs/ for each return.
pub bounds-l-0 : goal.bounds-l-0
bounds-l-0 c = omega (arith, path_fits _ c.requires)

pub slice_bounds-result-count : goal.slice_bounds-result-count
slice_bounds-result-count c = omega (arith, path_fits _ c.requires)

pub slice_bounds-result-start : goal.slice_bounds-result-start
slice_bounds-result-start c = omega (arith, path_fits _ c.requires)

pub returns : goal.returns
returns c = after_part _ c.requires c.from-end.ensures
