use Rattle.std.proofs.Common.{sym, ◌∙◌}
use Rattle.std.proofs.lemmas.Result.{err_from_is_err_and}
use Rattle.read_line.specs.Known.{line_outcome}
use Rattle.read_line.specs.Told.{refused_ok, refused_error, line_error, line_read}
use Rattle.read_line.proofs.line.read_parts.Goals as goal

pub returns-in_err-context-clause-err : goal.returns-in_err-context-clause-err
returns-in_err-context-clause-err c =
    let p = err_from_is_err_and c.from_residual-in_err-context.result c.from_residual-in_err-context.ensures.1 in
    let e = refused_error _ (sym c.refused.ensures ∙ c.in_err-context.was) in
    rw (p.1, p.2, e.2)
    (λ out.
    line_error
    (line_outcome (rw c.in_ok-cut.ensures.ok_part at c.cut_line.ensures) c.read_path.ensures c.read_path-2.ensures c.read_set-set.ensures c.both-ends.ensures c.both.ensures)
    e.0 e.1 out)

pub returns-clause-ok : goal.returns-clause-ok
returns-clause-ok c =
    line_read
    (line_outcome (rw c.in_ok-cut.ensures.ok_part at c.cut_line.ensures) c.read_path.ensures c.read_path-2.ensures c.read_set-set.ensures c.both-ends.ensures c.both.ensures)
    (refused_ok _ (sym c.refused.ensures ∙ c.in_ok-context.was))
