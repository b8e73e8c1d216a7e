use Rattle.std.proofs.Common.{ap, not, arith}
use Rattle.write_line.specs.Normals.{normed_none, normed_skip, normed_more, normed_all, normed_is}
use Rattle.write_line.proofs.put_normal.Goals.{then-not-doubled, else-not-doubled}
use Rattle.write_line.proofs.put_normal.Goals as goal

pub loop-i-init : goal.loop-i-init
loop-i-init c = normed_none _ _ _ c.requires

pub loop-i-preserved : goal.loop-i-preserved
loop-i-preserved c = elim c.if-not-doubled.branch [
  | then-not-doubled w ↦ normed_is (cc) (cc) (normed_more c.loop-i.invariant c.loop-i-test.true c.doubled.ensures (ap not w.if-not-doubled.true) c.requires)
  | else-not-doubled w ↦ normed_is (cc) (cc) (normed_skip c.loop-i.invariant c.loop-i-test.true c.doubled.ensures (ap not w.if-not-doubled.false))
]

pub returns : goal.returns
returns c = normed_all c.loop-i.invariant (omega arith)
