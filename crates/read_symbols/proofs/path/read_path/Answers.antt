use Rattle.std.proofs.Common.{ap, ◌∙◌, arith, rules, tests, length, map, ◌≤◌}
use Rattle.std.specs.Slice.Iter.{split_rest, split_done, split_callee}
use Rattle.std.proofs.lemmas.List.{map_push}
use Rattle.std.proofs.lemmas.Result.{IfOk-weaker}
use Rattle.meaning.specs.Lists.{same}
use Rattle.read_record.specs.Library.{same_list}
use Rattle.read_symbols.specs.Splitting.{pieces_all, pieces_few}
use Rattle.read_symbols.specs.Scanning.{path_lone, path_read, scan_counted, scan_start, scan_more}
use Rattle.read_symbols.proofs.path.read_path.Goals as goal

pub returns-then-eq : goal.returns-then-eq
returns-then-eq c = path_lone _ _ (c.eq.ensures ∙ (same_list _ _ ∙ ap (same _) c.as_slice.ensures)) c.if-eq.true

pub loop-piece-init : goal.loop-piece-init
loop-piece-init c = scan_start _

pub add_symbol-path-requires : goal.add_symbol-path-requires
add_symbol-path-requires c =
    let first = c.into_iter-piece-iterator.ensures.into_iter_gives in
    let split = c.split-piece-items.ensures in
    let few : length (map (λ p. p.now) c.loop-piece.yielded) ≤ length c.args.t.now =
    pieces_few 46 _ _ c.loop-piece.yielded _ c.loop-piece.yielded_by _ _ c.next.ensures.steps c.in-Some.is
    (ap split_rest first ∙ split.rest) (ap split_done first ∙ split.done) (ap split_callee first ∙ split.closure) (λ x b q k. search (rules, tests)) in
    IfOk-weaker c.loop-piece.path _ _ (λ read e. omega arith) (scan_counted c.loop-piece.invariant)

pub loop-piece-preserved : goal.loop-piece-preserved
loop-piece-preserved c = rw map_push (scan_more c.loop-piece.invariant _ _ c.symbol_of.ensures c.add_symbol-path.ensures)

pub returns : goal.returns
returns c =
    let first = c.into_iter-piece-iterator.ensures.into_iter_gives in
    let split = c.split-piece-items.ensures in
    path_read (c.eq.ensures ∙ (same_list _ _ ∙ ap (same _) c.as_slice.ensures)) c.if-eq.false c.loop-piece.invariant
    (pieces_all 46 _ _ c.loop-piece.yielded _ c.loop-piece.yielded_by _ _ c.next.ensures.steps c.in-None.is
    (ap split_rest first ∙ split.rest) (ap split_done first ∙ split.done) (ap split_callee first ∙ split.closure) (λ x b q k. search (rules, tests)))
