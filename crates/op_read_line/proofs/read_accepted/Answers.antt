use Rattle.std.proofs.Common.{refl}
use Rattle.std.proofs.lemmas.Result.{err_from_is_err_and}
use Rattle.op_read_line.specs.Reading.{line_fault, line_read, ready_first, ready_standing, line_refused, line_filled}
use Rattle.op_read_line.proofs.read_accepted.Goals as goal

pub overflow_sub-accepted : goal.overflow_sub-accepted
overflow_sub-accepted c = ready_first c.requires.0 c.first_entry-first.ensures

pub read_key_line-read-requires : goal.read_key_line-read-requires
read_key_line-read-requires c = (ready_standing c.requires.0 c.first_entry-first.ensures c.record_at-labels.ensures, refl)

pub returns-in_err-used : goal.returns-in_err-used
returns-in_err-used c =
    let p = err_from_is_err_and c.from_residual.result c.from_residual.ensures.1 in
    rw (p.1, p.2) (line_refused c.requires.0 c.first_entry-first.ensures c.record_at-labels.ensures c.read_key_line-read.ensures _ c.requires.1 (line_fault _ c.in_err-used.ensures))

pub returns : goal.returns
returns c =
    line_filled c.requires.0 c.first_entry-first.ensures c.record_at-labels.ensures (line_read _ c.in_ok-used.ensures c.read_key_line-read.ensures) _ c.requires.1 refl c.put.ensures
