use Rattle.std.proofs.Common.{length}
use Rattle.test_replay.proofs.count_all.Given as goal

abbrev pub decreases-loop-segment : goal.decreases-loop-segment
decreases-loop-segment l = length l.rest
