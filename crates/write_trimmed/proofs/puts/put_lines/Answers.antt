use mathlib.Core.Path.{sym}
use Rattle.write_trimmed.specs.Putting.{puts_start, puts_room, puts_skip, puts_next, puts_end, wrote_there}
use native.Mathlib.Omega.{arith}
use Rattle.write_trimmed.proofs.puts.put_lines.Goals.{then-marks-n, else-marks-n}
use Rattle.write_trimmed.proofs.puts.put_lines.Goals as goal

pub loop-n-init : goal.loop-n-init
loop-n-init c = (omega arith, puts_start c.requires)

pub put_line-next-requires : goal.put_line-next-requires
put_line-next-requires c = (c.requires.each _ (let h = c.loop-n-test.true in omega arith), puts_room c.requires _ c.loop-n.invariant.1 (let h = c.loop-n-test.true in omega arith) c.if-marks-n.true)

pub returns : goal.returns
returns c = puts_end c.requires _ c.loop-n.invariant.1 c.loop-n.invariant.0 c.loop-n-test.false

pub loop-n-preserved : goal.loop-n-preserved
loop-n-preserved c = (
  omega arith,
  elim c.if-marks-n.branch [
    | then-marks-n w ↦ wrote_there (sym w.out-is) (sym w.next-is) (puts_next c.requires _ c.loop-n.invariant.1 w.if-marks-n.true w.put_line-next.ensures)
    | else-marks-n w ↦ wrote_there (sym w.out-is) (sym w.next-is) (puts_skip c.requires _ c.loop-n.invariant.1 w.if-marks-n.false)
  ],
)

pub returns-after-marks-n : goal.returns-after-marks-n
returns-after-marks-n c = elim c.if-marks-n.branch [
  | then-marks-n w ↦ puts_end c.requires _ (wrote_there (sym w.out-is) (sym w.next-is) (puts_next c.requires _ c.loop-n.invariant.1 w.if-marks-n.true w.put_line-next.ensures)) (omega arith) (omega arith)
  | else-marks-n w ↦ puts_end c.requires _ (wrote_there (sym w.out-is) (sym w.next-is) (puts_skip c.requires _ c.loop-n.invariant.1 w.if-marks-n.false)) (omega arith) (omega arith)
]
