use Rattle.write_proof.specs.Whole.{chain_put}
use Rattle.theory_pattern.specs.Rows.{chain_length}
use Rattle.write_bytes.specs.Wrote.{wrote_more, part_length}
use lib.ListN.{length}
use mathlib.Core.Path.{sym, ap, ◌∙◌}
use native.Mathlib.Omega.{arith}
use Rattle.write_proof.proofs.write_first.Goals as goal

pub put-next-requires : goal.put-next-requires
put-next-requires c = let u = c.requires.0.fits.context_short in let e = ap length c.context.ensures in omega arith

pub put-end-requires : goal.put-end-requires
put-end-requires c = let u = c.requires.0.fits.context_short in let v = c.requires.0.fits.target_short in let e = ap length c.context.ensures in let x = ap length c.target.ensures in let a = c.put-next.ensures.after in let k = c.put-next.ensures.kept in omega arith

pub slice_bounds-write_split-end : goal.slice_bounds-write_split-end
slice_bounds-write_split-end c = sym (part_length (wrote_more c.put-next.ensures c.put-end.ensures))

pub write_split-requires : goal.write_split-requires
write_split-requires c = let is = chain_put c.requires.0 c.context.ensures c.target.ensures c.put-next.ensures c.put-end.ensures in
    (c.requires.0, c.requires.1, is, let l = ap length is ∙ chain_length _ in let h = c.requires.2 in omega arith)
