use mathlib.Core.Path.{◌∙◌, ap}
use native.Mathlib.Omega.{arith}
use lib.ListN.{length, drop}
use borrow.Author.Rules.{part_to_end}
use Rattle.read_record.specs.KeyPaths.{set_nonempty, at_start_in, paths_in}
use Rattle.read_record.proofs.keys.paths.Goals as goal

pub slice_bounds-result-count : goal.slice_bounds-result-count
slice_bounds-result-count c = omega (arith, ap length c.counted_set-set.ensures, set_nonempty _ c.requires)

pub slice_bounds-result-start : goal.slice_bounds-result-start
slice_bounds-result-start c = omega (arith, ap length c.counted_set-set.ensures, set_nonempty _ c.requires)

pub returns : goal.returns
unfolding paths_in
returns c = at_start_in _ c.requires (part_to_end c.counted_set-set.result.now 1 ∙ ap (drop 1) c.counted_set-set.ensures)
