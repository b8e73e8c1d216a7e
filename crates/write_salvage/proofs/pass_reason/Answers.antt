use Rattle.write_salvage.specs.Blocks.{reason_kept, reason_in, reason_other}
use Rattle.write_salvage.proofs.pass_reason.Goals as goal

pub returns-then-reason-eq0 : goal.returns-then-reason-eq0
returns-then-reason-eq0 c = search (reason_kept)

pub returns-then-in_block : goal.returns-then-in_block
returns-then-in_block c = search (reason_in)

pub returns : goal.returns
returns c = search (reason_other)
