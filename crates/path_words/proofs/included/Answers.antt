use Rattle.std.proofs.Common.{rules}
use Rattle.path_words.specs.Rows.{rowed_start, rowed_more, rowed_end}
use Rattle.path_words.proofs.included.Goals as goal

pub loop-i-init : goal.loop-i-init
loop-i-init c = rowed_start _ _ (search rules)

pub loop-i-preserved : goal.loop-i-preserved
loop-i-preserved c = search rowed_more

pub returns : goal.returns
returns c = search rowed_end
