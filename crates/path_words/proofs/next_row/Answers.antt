use Rattle.path_words.specs.Rows.{filling_start, filling_more, filling_end}
use Rattle.path_words.proofs.next_row.Goals as goal

pub loop-i-init : goal.loop-i-init
loop-i-init c = search filling_start

pub loop-i-preserved : goal.loop-i-preserved
loop-i-preserved c = search filling_more

pub returns : goal.returns
returns c = search filling_end
