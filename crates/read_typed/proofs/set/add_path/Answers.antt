use Rattle.std.proofs.Common.{sym, ap, ◌∙◌, rules}
use Rattle.std.specs.Prelude.{not}
use Rattle.std.proofs.lemmas.Result.{err_from_is_err_and}
use Rattle.read_key.specs.Symbols.{good_key_path}
use Rattle.read_symbols.specs.Outcomes.{both_first}
use Rattle.read_typed.specs.Gathering.{set_counted, add_error, add_unfit, add_long, add_bad, add_over, add_ready, add_in}
use Rattle.read_typed.proofs.set.add_path.Goals as goal

pub returns-in_err-set : goal.returns-in_err-set
returns-in_err-set c =
    let p = err_from_is_err_and c.from_residual.result c.from_residual.ensures.1 in
    λ done h. rw (p.1, p.2) (add_error h c.read_path.ensures _ (sym c.both.ensures ∙ c.in_err-set.was))

pub overflow_add-count : goal.overflow_add-count
overflow_add-count c =
    let counted = set_counted c.requires.1.holds (both_first _ _ (sym c.both.ensures ∙ c.in_ok-set.was)) in
    let few = c.requires.1.few in
    search rules

pub returns-in_default : goal.returns-in_default
returns-in_default c = λ done h. add_unfit h c.read_path.ensures (sym c.both.ensures ∙ c.in_ok-set.was) c.in_default.is

pub returns-then-read-gt-SYMBOLS : goal.returns-then-read-gt-SYMBOLS
returns-then-read-gt-SYMBOLS c = λ done h. add_long h c.read_path.ensures (sym c.both.ensures ∙ c.in_ok-set.was) c.in-Some.is c.if-read-gt-SYMBOLS.true

pub returns-then-not-good_key_path : goal.returns-then-not-good_key_path
returns-then-not-good_key_path c =
    λ done h. add_bad h c.read_path.ensures (sym c.both.ensures ∙ c.in_ok-set.was) c.in-Some.is c.if-read-gt-SYMBOLS.false (c.good_key_path.ensures ∙ ap (good_key_path _ _) c.symbols.ensures) (ap not c.if-not-good_key_path.true)

pub returns-then-count-gt-KEY_PATHS : goal.returns-then-count-gt-KEY_PATHS
returns-then-count-gt-KEY_PATHS c =
    λ done h.
    add_over h c.read_path.ensures (sym c.both.ensures ∙ c.in_ok-set.was) c.in-Some.is c.if-read-gt-SYMBOLS.false (c.good_key_path.ensures ∙ ap (good_key_path _ _) c.symbols.ensures) (ap not c.if-not-good_key_path.false)
    c.if-count-gt-KEY_PATHS.true

pub insert_path-end-requires : goal.insert_path-end-requires
insert_path-end-requires c =
    rw c.symbols-2.ensures
    (add_ready c.requires.1.holds c.read_path.ensures (sym c.both.ensures ∙ c.in_ok-set.was) c.in-Some.is c.if-read-gt-SYMBOLS.false (c.good_key_path.ensures ∙ ap (good_key_path _ _) c.symbols.ensures)
    (ap not c.if-not-good_key_path.false) c.if-count-gt-KEY_PATHS.false)

pub returns : goal.returns
returns c =
    λ done h.
    add_in h c.read_path.ensures (sym c.both.ensures ∙ c.in_ok-set.was) c.in-Some.is c.if-read-gt-SYMBOLS.false (c.good_key_path.ensures ∙ ap (good_key_path _ _) c.symbols.ensures) (ap not c.if-not-good_key_path.false)
    c.if-count-gt-KEY_PATHS.false (rw c.symbols-2.ensures at c.insert_path-end.ensures)
