use Rattle.std.proofs.Common.{ap, ◌∙◌, arith, rules, tests, ◌≤◌, length}
use Rattle.std.specs.Iterator.Adapters.{enumerate_source, enumerate_count}
use Rattle.std.proofs.lemmas.List.{map_push, length-map}
use Rattle.read_symbols.specs.Splitting.{numbered_all, numbered_few}
use Rattle.read_symbols.specs.Outcomes.{behind_all}
use Rattle.read_typed.specs.Texts.{text_at, texts_all}
use Rattle.read_typed.specs.Gathering.{set_none, set_read, no_paths}
use Rattle.read_typed.proofs.set.read_set.Goals as goal

pub returns-then-is_empty : goal.returns-then-is_empty
returns-then-is_empty c = set_none _ _ _ _ c.requires.1 (search (rules, tests))

pub loop-place-init : goal.loop-place-init
loop-place-init c = no_paths _ _ _ c.requires.1

pub add_path-set-requires : goal.add_path-set-requires
add_path-set-requires c =
    let first = c.into_iter-place-iterator.ensures.into_iter_gives in
    let from = c.enumerate-place-items.ensures in
    let split = c.split.ensures in
    let few : length c.loop-place.yielded ≤ length c.args.t.now =
    numbered_few 44 _ _ c.loop-place.yielded _ c.loop-place.yielded_by _ _ c.next.ensures.steps (ap enumerate_count first ∙ from.count) (ap enumerate_source first ∙ from.source) split.rest split.done split.closure
    (λ x b q k. search (rules, tests)) c.in-Some.is in
    (c.requires.0, record { done = _; holds = c.loop-place.invariant; few = omega (arith, length-map c.loop-place.yielded (λ p. text_at p.0 p.1.now)) })

pub loop-place-preserved : goal.loop-place-preserved
unfolding behind_all
loop-place-preserved c = rw (map_push, ← c.path_text.ensures) (c.add_path-set.ensures _ c.loop-place.invariant)

pub returns : goal.returns
returns c =
    let first = c.into_iter-place-iterator.ensures.into_iter_gives in
    let from = c.enumerate-place-items.ensures in
    let split = c.split.ensures in
    set_read (search (rules, tests)) c.loop-place.invariant
    (texts_all _ c.loop-place.yielded
    (numbered_all 44 _ _ c.loop-place.yielded _ c.loop-place.yielded_by _ _ c.next.ensures.steps (ap enumerate_count first ∙ from.count) (ap enumerate_source first ∙ from.source) split.rest split.done split.closure
    (λ x b q k. search (rules, tests)) c.in-None.is))
