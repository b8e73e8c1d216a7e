use Rattle.std.proofs.Common.{arith, rules, tests}
use Rattle.read_names.specs.Names.{next_shorter}
use Rattle.make.proofs.make_lines.Goals as goal

pub loop-rest-smaller : goal.loop-rest-smaller
loop-rest-smaller g c = next_shorter _ _ (search (rules, tests)) c.after_name-rest.ensures

pub loop-rest-preserved : goal.loop-rest-preserved
loop-rest-preserved g c = let s = next_shorter _ _ (search (rules, tests)) c.after_name-rest.ensures in omega arith
