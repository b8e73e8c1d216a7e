use Rattle.std.proofs.lemmas.Result.{err_from_is_err_and}
use Rattle.op_profile.specs.Returns.{first_stops_here, second_stops_here, included_so, short_path}
use Rattle.op_profile.proofs.inclusions.include_paths.Goals as goal

pub returns-in_err-judge_path : goal.returns-in_err-judge_path
returns-in_err-judge_path c =
    let p = err_from_is_err_and c.from_residual.result c.from_residual.ensures.1 in
    rw (p.1, p.2) (first_stops_here _ _ _ (λ i. (c.shared_slice_known-1.given i).fits) (λ i. (c.shared_slice_known-2-1.given i).fits) c.in_err-judge_path.ensures)

pub returns-in_err-judge_path-2 : goal.returns-in_err-judge_path-2
returns-in_err-judge_path-2 c =
    let p = err_from_is_err_and c.from_residual-in_err-judge_path-2.result c.from_residual-in_err-judge_path-2.ensures.1 in
    rw (p.1, p.2) (second_stops_here _ _ _ (λ i. (c.shared_slice_known-1.given i).fits) (λ i. (c.shared_slice_known-2-1.given i).fits) c.in_ok-judge_path.ensures c.in_err-judge_path-2.ensures)

pub included-requires : goal.included-requires
included-requires c = (
  short_path _ _ (λ i. (c.shared_slice_known-1.given i).fits) c.requires c.in_ok-judge_path.ensures,
  short_path _ _ (λ i. (c.shared_slice_known-2-1.given i).fits) c.requires c.in_ok-judge_path-2.ensures,
)

pub returns : goal.returns
returns c =
    included_so _ _ _ (λ i. (c.shared_slice_known-1.given i).fits) (λ i. (c.shared_slice_known-2-1.given i).fits) c.in_ok-judge_path.ensures c.in_ok-judge_path-2.ensures _ c.included.ensures
