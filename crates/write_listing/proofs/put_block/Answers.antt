use Rattle.std.proofs.Common.{refl, ◌∙◌, arith}
use Rattle.write_listing.specs.Writing.{block_none, block_more, block_all, block_empty}
use Rattle.write_listing.proofs.put_block.Goals as goal

pub returns-then-k-ge-BLOCKS : goal.returns-then-k-ge-BLOCKS
returns-then-k-ge-BLOCKS c = block_empty _ _ _ _ (let f = c.requires.0.few in omega arith)

pub loop-i-init : goal.loop-i-init
loop-i-init c = (omega arith, omega arith, omega arith, refl, block_none _ _ _ _)

pub loop-i-preserved : goal.loop-i-preserved
loop-i-preserved c = let v = c.loop-i.invariant in (
  omega arith,
  omega arith,
  (let s = c.put_line-at.ensures.short in let w = c.put_line-at.ensures.wrote.after in omega arith),
  c.put_line-at.auto.out ∙ v.3,
  block_more _ _ _ _ v.0 (omega arith) (let r = c.requires.1 in omega arith) v.4 c.put_line-at.ensures,
)

pub returns : goal.returns
returns c = let v = c.loop-i.invariant in block_all _ _ _ _ v.0 v.1 (λ h. let m = h in omega arith) v.4
