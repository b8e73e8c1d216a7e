use Rattle.std.proofs.Common.{rules}
use Rattle.read_text.specs.Cutting.{no_open, no_second, no_third, no_last, cut_end, cut_told}
use Rattle.read_text.proofs.cut.cut_line.Goals as goal

pub returns-in_err-strip_prefix : goal.returns-in_err-strip_prefix
returns-in_err-strip_prefix c = rw c.from_residual.ensures (no_open _ c.in_err-strip_prefix.ensures.cases)

pub returns-in_err-strip_prefix-2 : goal.returns-in_err-strip_prefix-2
returns-in_err-strip_prefix-2 c =
    rw c.from_residual-in_err-strip_prefix-2.ensures
    (no_second _ c.in_ok-strip_prefix.ensures.cases c.cut_at.ensures.before c.cut_at.ensures.behind c.in_err-strip_prefix-2.ensures.cases)

pub returns-in_err-strip_prefix-3 : goal.returns-in_err-strip_prefix-3
returns-in_err-strip_prefix-3 c =
    rw c.from_residual-in_err-strip_prefix-3.ensures
    (no_third _ c.in_ok-strip_prefix.ensures.cases c.cut_at.ensures.before c.cut_at.ensures.behind
    c.in_ok-strip_prefix-2.ensures.cases c.cut_at-2.ensures.before c.cut_at-2.ensures.behind c.in_err-strip_prefix-3.ensures.cases)

pub returns-in_err-end : goal.returns-in_err-end
returns-in_err-end c =
    rw c.from_residual-in_err-end.ensures
    (no_last _ c.in_ok-strip_prefix.ensures.cases c.cut_at.ensures.before c.cut_at.ensures.behind
    c.in_ok-strip_prefix-2.ensures.cases c.cut_at-2.ensures.before c.cut_at-2.ensures.behind
    c.in_ok-strip_prefix-3.ensures.cases c.cut_at-3.ensures.before c.cut_at-3.ensures.behind c.in_err-end.ensures.cases)

pub returns : goal.returns
returns c =
    cut_told _ _
    (cut_end _ c.in_ok-strip_prefix.ensures.cases c.cut_at.ensures.before c.cut_at.ensures.behind
    c.in_ok-strip_prefix-2.ensures.cases c.cut_at-2.ensures.before c.cut_at-2.ensures.behind
    c.in_ok-strip_prefix-3.ensures.cases c.cut_at-3.ensures.before c.cut_at-3.ensures.behind c.in_ok-end.ensures.cases)
    c.then_some.ensures (search rules)
