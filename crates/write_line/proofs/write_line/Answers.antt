use native.Mathlib.Omega.{arith}
use Rattle.theory_pattern.specs.RowParts.{norm_length}
use Rattle.write_bytes.specs.Wrote.{part_length}
use Rattle.write_line.specs.LineParts.{line_wrote}
use mathlib.Core.Path.{sym}
use Rattle.write_line.proofs.write_line.Goals as goal

pub slice_bounds-put_key-end : goal.slice_bounds-put_key-end
slice_bounds-put_key-end c = sym (search (part_length))

pub slice_bounds-put_key-end-2 : goal.slice_bounds-put_key-end-2
slice_bounds-put_key-end-2 c = sym (search (part_length))

pub put_key-requires : goal.put_key-requires
put_key-requires c = let l = part_length c.put_normal-c_end.ensures in let m = part_length c.put_normal-t_end.ensures in
    (omega (arith, c.put_normal-c_end.ensures, norm_length c.args.context.now), omega (arith, norm_length c.args.target.now), omega arith, omega (arith, norm_length c.args.context.now, norm_length c.args.target.now))

pub returns : goal.returns
returns c = line_wrote _ _ _ _ _ _ _ _ c.requires (omega arith) c.put_key.ensures c.put_head-next.ensures c.put_normal-t_end.ensures c.put_normal-c_end.ensures
