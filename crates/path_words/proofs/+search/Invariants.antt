use Prim.Native.Nat.{◌+◌}
use lib.ListN.{length}
use Rattle.path_words.proofs.+search.Given as goal

abbrev pub decreases-search : goal.decreases-search
decreases-search l = length l.run.now + length l.path.now
