use Rattle.std.proofs.Common.{arith, refl}
use Rattle.std.proofs.lemmas.Result.{err_from_is_err_and}
use Rattle.read_judged.specs.declared.RefusalKind.TheVariants.{TooLarge}
use Rattle.op_answers.specs.declared.Input.TheVariants.{TreeOrProof}
use Rattle.op_campaign.specs.Reporting.{report_small, report_long, report_stops, report_keys, report_fills}
use Rattle.op_campaign.proofs.report.Goals as goal

pub returns-in_err-has_room : goal.returns-in_err-has_room
returns-in_err-has_room c =
    let p = err_from_is_err_and c.from_residual.result c.from_residual.ensures.1 in
    rw (p.1, p.2) (report_small _ _ _ _ _ c.in_err-has_room.ensures.0 c.in_err-has_room.ensures.1)

pub returns-then-name_count-gt-CAMPAIGN_NAMES : goal.returns-then-name_count-gt-CAMPAIGN_NAMES
returns-then-name_count-gt-CAMPAIGN_NAMES c =
    report_long _ _ _ _ (record { kind = TooLarge; input = TreeOrProof; place = 0 }) c.in_ok-has_room.ensures (omega arith) refl

pub returns-in_err-accepted : goal.returns-in_err-accepted
returns-in_err-accepted c =
    let p = err_from_is_err_and c.from_residual-in_err-accepted.result c.from_residual-in_err-accepted.ensures.1 in
    rw (p.1, p.2) (report_stops _ _ _ c.in_ok-has_room.ensures (omega arith) c.in_err-accepted.ensures)

pub put_report-requires : goal.put_report-requires
put_report-requires c = (report_keys c.in_ok-accepted.ensures.0, c.in_ok-has_room.ensures)

pub returns : goal.returns
returns c = report_fills _ _ _ c.in_ok-has_room.ensures (omega arith) c.in_ok-accepted.ensures.0 c.put_report.ensures
