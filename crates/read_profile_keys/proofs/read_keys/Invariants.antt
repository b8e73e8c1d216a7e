use Rattle.read_profile_keys.specs.KeyWalks.{KeysLoop}
use lib.ListN.{length}
use Rattle.read_profile_keys.proofs.read_keys.Given as goal

abbrev pub invariant-loop-rest : goal.invariant-loop-rest
invariant-loop-rest l = KeysLoop l.classes l.bytes l.keys l.rest

abbrev pub decreases-loop-rest : goal.decreases-loop-rest
decreases-loop-rest l = length l.rest
