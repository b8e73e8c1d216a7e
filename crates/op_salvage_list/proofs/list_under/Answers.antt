use Rattle.std.proofs.Common.{sym, arith, length-take-le}
use Rattle.std.proofs.lemmas.Result.{err_from_is_err_and}
use Rattle.theory_records.specs.Bytes.{bytes_from}
use Rattle.write_salvage.specs.Blocks.{window_room, dropped_most}
use Rattle.op_salvage.specs.Salvaged.{left_told}
use Rattle.op_salvage_list.specs.Listing.{tree_stops, records_fit, records_most, kept_fits, kept_ready, block_lists}
use Rattle.op_salvage_list.proofs.list_under.Goals as goal

pub returns-in_err-passed : goal.returns-in_err-passed
returns-in_err-passed c =
    let p = err_from_is_err_and c.from_residual.result c.from_residual.ensures.1 in
    λ profile before g is_part. rw (p.1, p.2) (tree_stops _ _ _ _ _ _ c.salvage_into-read.ensures c.in_err-passed.ensures _ _ c.requires.3 profile g)

pub slice_bounds-reasons-end : goal.slice_bounds-reasons-end
slice_bounds-reasons-end c = records_fit _ (left_told _ _ _ _ _ _ c.salvage_into-read.ensures c.in_ok-passed.ensures) c.requires.0

pub slice_bounds-put_dropped-end : goal.slice_bounds-put_dropped-end
slice_bounds-put_dropped-end c = sym (length-take-le _ _ (records_fit _ (left_told _ _ _ _ _ _ c.salvage_into-read.ensures c.in_ok-passed.ensures) c.requires.0))

pub put_dropped-dropped-requires : goal.put_dropped-dropped-requires
put_dropped-dropped-requires c =
    (c.requires.3, c.block_start-start.ensures.low, records_most _ (left_told _ _ _ _ _ _ c.salvage_into-read.ensures c.in_ok-passed.ensures) c.requires.0)

pub slice_bounds-kept-end : goal.slice_bounds-kept-end
slice_bounds-kept-end c = kept_fits _ (left_told _ _ _ _ _ _ c.salvage_into-read.ensures c.in_ok-passed.ensures) c.requires.0

pub put_broken_keys-put-requires : goal.put_broken_keys-put-requires
put_broken_keys-put-requires c =
    let w = c.put_dropped-dropped.ensures in
    let r = window_room w in
    let k = c.put_dropped-dropped.auto.out in
    let m = dropped_most _ _ w in
    let l = records_most _ (left_told _ _ _ _ _ _ c.salvage_into-read.ensures c.in_ok-passed.ensures) c.requires.0 in
    record {
      tree_bytes = (
        kept_ready _ (left_told _ _ _ _ _ _ c.salvage_into-read.ensures c.in_ok-passed.ensures)
            (bytes_from _ (λ i h. (c.shared_slice_known-2-1.given i).fits)) c.requires.0,
        c.requires.1,
        c.requires.2,
        omega arith,
      );
      start_bound = (c.block_start-start.ensures.low, omega arith, omega arith);
    }

pub returns : goal.returns
returns c = λ profile before g is_part.
    block_lists _ (left_told _ _ _ _ _ _ c.salvage_into-read.ensures c.in_ok-passed.ensures) (bytes_from _ (λ i h. (c.shared_slice_known-2-1.given i).fits)) c.requires.0
    c.requires.3 c.block_start-start.ensures c.put_dropped-dropped.ensures c.put_broken_keys-put.ensures profile before g is_part
