use Rattle.std.proofs.Common.{rules}
use Rattle.std.proofs.lemmas.Result.{err_from_is_err_and}
use Rattle.read_line.specs.Told.{line_first, line_fine, fine_head, fine_within, fine_whole, line_last, line_whole}
use Rattle.read_line.proofs.line.read_key_line.Goals as goal

pub returns-in_err-parts : goal.returns-in_err-parts
returns-in_err-parts c =
    let p = err_from_is_err_and c.from_residual.result c.from_residual.ensures.1 in rw (p.1, p.2) (c.in_err-parts.ensures.err _)

pub returns-in_err-set_end : goal.returns-in_err-set_end
returns-in_err-set_end c =
    let p = err_from_is_err_and c.from_residual-in_err-set_end.result c.from_residual-in_err-set_end.ensures.1 in
    rw (p.1, p.2) (line_first c.in_ok-parts.ensures.ok c.path_fits.ensures c.path_fits-2.ensures _ c.set_bytes.ensures.number _ c.in_err-set_end.was _)

pub symbols-requires : goal.symbols-requires
symbols-requires c =
    let f = (line_fine c.in_ok-parts.ensures.ok c.path_fits.ensures c.path_fits-2.ensures _ c.set_bytes.ensures.number c.in_ok-set_end.was c.set_bytes.ensures.bytes) in f.context_short

pub symbols-requires-2 : goal.symbols-requires-2
symbols-requires-2 c =
    let f = (line_fine c.in_ok-parts.ensures.ok c.path_fits.ensures c.path_fits-2.ensures _ c.set_bytes.ensures.number c.in_ok-set_end.was c.set_bytes.ensures.bytes) in f.target_short

pub slice_bounds-new-count : goal.slice_bounds-new-count
slice_bounds-new-count c =
    fine_head (line_fine c.in_ok-parts.ensures.ok c.path_fits.ensures c.path_fits-2.ensures _ c.set_bytes.ensures.number c.in_ok-set_end.was c.set_bytes.ensures.bytes) (rw (c.symbols.ensures, c.symbols-2.ensures) at c.put_record-used.ensures)

pub slice_bounds-new-start : goal.slice_bounds-new-start
slice_bounds-new-start c =
    let h = fine_head (line_fine c.in_ok-parts.ensures.ok c.path_fits.ensures c.path_fits-2.ensures _ c.set_bytes.ensures.number c.in_ok-set_end.was c.set_bytes.ensures.bytes) (rw (c.symbols.ensures, c.symbols-2.ensures) at c.put_record-used.ensures) in
    let k = fine_within (line_fine c.in_ok-parts.ensures.ok c.path_fits.ensures c.path_fits-2.ensures _ c.set_bytes.ensures.number c.in_ok-set_end.was c.set_bytes.ensures.bytes) (rw (c.symbols.ensures, c.symbols-2.ensures) at c.put_record-used.ensures) in
    search rules

pub new-key-requires : goal.new-key-requires
new-key-requires c =
    fine_whole (line_fine c.in_ok-parts.ensures.ok c.path_fits.ensures c.path_fits-2.ensures _ c.set_bytes.ensures.number c.in_ok-set_end.was c.set_bytes.ensures.bytes) (rw (c.symbols.ensures, c.symbols-2.ensures) at c.put_record-used.ensures)

pub returns-in_err-key_refusal : goal.returns-in_err-key_refusal
returns-in_err-key_refusal c =
    let p = err_from_is_err_and c.from_residual-in_err-key_refusal.result c.from_residual-in_err-key_refusal.ensures.1 in
    rw (p.1, p.2)
    (line_last (line_fine c.in_ok-parts.ensures.ok c.path_fits.ensures c.path_fits-2.ensures _ c.set_bytes.ensures.number c.in_ok-set_end.was c.set_bytes.ensures.bytes) (rw (c.symbols.ensures, c.symbols-2.ensures) at c.put_record-used.ensures) _
    (rw c.new-key.ensures at c.key_refusal.ensures) _ c.in_err-key_refusal.was)

pub returns : goal.returns
returns c =
    line_whole (line_fine c.in_ok-parts.ensures.ok c.path_fits.ensures c.path_fits-2.ensures _ c.set_bytes.ensures.number c.in_ok-set_end.was c.set_bytes.ensures.bytes) (rw (c.symbols.ensures, c.symbols-2.ensures) at c.put_record-used.ensures) _
    (rw c.new-key.ensures at c.key_refusal.ensures) c.in_ok-key_refusal.was
