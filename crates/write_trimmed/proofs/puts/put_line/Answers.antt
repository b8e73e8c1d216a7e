use Rattle.write_trimmed.specs.Putting.{put_size, put_known, put_long, put_moved}
use lib.ListN.{length-take, length-drop}
use native.Mathlib.Omega.{arith}
use Rattle.write_trimmed.proofs.puts.put_line.Goals as goal

pub renumbered-first-requires : goal.renumbered-first-requires
renumbered-first-requires c = put_known c.requires.0 c.line_body-body.ensures

pub bounds-body-0 : goal.bounds-body-0
bounds-body-0 c = let h = put_long c.requires.0 c.line_body-body.ensures in omega arith

pub slice_bounds-put-count : goal.slice_bounds-put-count
slice_bounds-put-count c = put_long c.requires.0 c.line_body-body.ensures

pub slice_bounds-put-start : goal.slice_bounds-put-start
slice_bounds-put-start c = put_long c.requires.0 c.line_body-body.ensures

pub put-requires : goal.put-requires
put-requires c = simp (length-take, length-drop) (omega (arith, c.requires.1, put_size c.requires.0 c.line_body-body.ensures, c.put_head-key_at.ensures.size, c.put_head-key_at.ensures.wrote.kept))

pub returns : goal.returns
returns c = put_moved c.requires.0 _ c.line_body-body.ensures c.from.ensures c.renumbered-first.ensures c.put_head-key_at.ensures c.put.ensures
