-- The paths of a set as they come, put into record order, return by return.
use Rattle.std.specs.Prelude as library
use Rattle.std.specs.Prelude.{ℕ, suc, ◌+◌, ◌-◌, ◌*◌, ◌<◌, ◌≤◌, ◌≡◌, refl, Bool, true, false, not, ◌&&◌, ltb, List, [], ◌∷◌, length, take, drop, Result, Ok, Err, is_some, unwrap_or}
use Rattle.std.proofs.Common.{sym, ap, ap₂, subst, ◌∙◌, arith, lt-ltb, length-append}
use Rattle.std.proofs.lemmas.Bool.{lt-leb, not-true, not-false}
use mathlib.Core.List.{flatten}
use Rattle.meaning.specs.Lists.{every}
use Rattle.meaning.specs.Paths.{Label, normal, simple}
use Rattle.meaning.specs.Text.{symbol_of, every_one, put_path, in_record_order}
use Rattle.theory_lists.specs.Bools.{of_true}
use Rattle.theory_text.specs.Reading.{read_path, read_set}
use Rattle.read_record.specs.Classes.{ByteAt, is_symbol_by, good_path_by}
use Rattle.read_key.specs.Symbols.{good_key_path}
use Rattle.read_symbols.specs.declared.errors.TextError.{TextError}
use Rattle.read_symbols.specs.declared.path.PathRead.{PathRead}
use Rattle.read_symbols.specs.Outcomes
use Rattle.read_symbols.specs.Outcomes.{Outcome, Made, both, on_ok, behind_all, outcome_map, outcome_read, outcome_more, outcome_counted}
use Rattle.read_symbols.specs.Scanning.{Slot, PathHolds, PathTold, symbols_in}
use Rattle.write_set.specs.Encoded.{SetIn, set_in, bytes_of}
use Rattle.write_set.specs.Inserts.{drop_of_take}
use Rattle.write_order.specs.Inserts.{InsertFits, Inserted}
use Rattle.read_typed.specs.declared.set.SetRead.{SetRead}
use Rattle.read_typed.specs.Texts.{texts, read_set_texts}

-- a path of bytes
unfoldable pub is_bytes : List ℕ → Bool
is_bytes p = every (λ (b : ℕ). ltb b 256) p

pub bytes_are : (p : List ℕ) → ByteAt p → is_bytes p ≡ true
unfolding is_bytes every
bytes_are [] h = refl
bytes_are (b ∷ p) h = rw (lt-ltb b 256 (h 0)) (bytes_are p (λ i. h (suc i)))

-- What is known of the paths so far, in the order in which they were typed
pub record Kept (classes out : List ℕ) (fits : Bool) (count used : ℕ) (ps : List (List ℕ)) : Type 0 where
  pub counted : count ≡ length ps
  pub fit : fits ≡ every (good_key_path classes 8) ps
  pub bytes : every is_bytes ps ≡ true
  pub stands : fits ≡ true → count ≤ 4 → SetIn out count used (in_record_order [] ps)
  pub short : fits ≡ true → count ≤ 4 → used ≤ 9 * count

-- of a set that was read: each path passes 4 where the bytes used are said
abbrev pub Gathered : List ℕ → List ℕ → SetRead → List (List ℕ) → Type 0
Gathered classes out set ps = Kept classes out (is_some set.used) set.count (unwrap_or set.used 0) ps

pub record SetHolds (labels : List Label) (classes : List ℕ) (done : List (List ℕ)) (out : List ℕ) (r : Result SetRead TextError) : Type 0 where
  pub told : Outcome (every_one read_path done) (every_one (every_one (symbol_of labels))) r (Gathered classes out)
  pub room : length out ≡ 36

pub record SetReady (labels : List Label) (classes out : List ℕ) (r : Result SetRead TextError) : Type 0 where
  pub done : List (List ℕ)
  pub holds : SetHolds labels classes done out r
  pub few : length done < 9223372036854775808

-- what a set's text comes to
pub record SetTold (labels : List Label) (classes t out : List ℕ) (r : Result SetRead TextError) : Type 0 where
  pub told : Outcome (read_set t) (every_one (every_one (symbol_of labels))) r (Gathered classes out)
  pub room : length out ≡ 36

pub set_counted : {labels : List Label} {classes : List ℕ} {done : List (List ℕ)} {out : List ℕ} {r : Result SetRead TextError} → SetHolds labels classes done out r
    → {set : SetRead} → r ≡ Ok set → set.count ≡ length done
set_counted {done = done} holds e =
    outcome_counted read_path (every_one (symbol_of _)) done (λ (set : SetRead). set.count) (λ set ps k. k.counted) holds.told _ e

-- the symbols in a slot
pub slot_symbols : {count : ℕ} {path p : List ℕ} → Slot count path p → count ≤ 8 → take count (drop 1 path) ≡ p
slot_symbols {count} {path} s h =
    let e : count ≡ count + 1 - 1 = omega arith in
    ap (λ (n : ℕ). take n (drop 1 path)) e ∙ (sym (drop_of_take 1 (count + 1) path (omega arith)) ∙ ap (drop 1) (s.stands h))

every_more : (f : List ℕ → Bool) (ps : List (List ℕ)) (p : List ℕ) → every f (behind_all ps p) ≡ (every f ps && f p)
unfolding every behind_all
every_more f [] p = go (f p)
  where
    go : (b : Bool) → (b && true) ≡ b
    go true = refl
    go false = refl
every_more f (q ∷ ps) p = ap (λ (b : Bool). f q && b) (every_more f ps p) ∙ assoc (f q) (every f ps) (f p)
  where
    assoc : (a b c : Bool) → (a && (b && c)) ≡ (a && b && c)
    assoc true b c = refl
    assoc false b c = refl

order_more : (done ps : List (List ℕ)) (p : List ℕ) → in_record_order done (behind_all ps p) ≡ put_path p (in_record_order done ps)
unfolding in_record_order behind_all
order_more done [] p = refl
order_more done (q ∷ ps) p = order_more (put_path q done) ps p

false_true : {A : Type 0} → false ≡ true → A
false_true e = absurd (of_true _ e)

long_path : (classes p : List ℕ) → 8 < length p → good_key_path classes 8 p ≡ false
unfolding good_key_path good_path_by
long_path classes p h = rw (lt-leb (length p) 8 h) (go (every (is_symbol_by classes) p && normal p))
  where
    go : (a : Bool) → (a && false && simple p) ≡ false
    go true = refl
    go false = refl

module _ {labels : List Label} {classes out : List ℕ} {done : List (List ℕ)} {r : Result SetRead TextError} (holds : SetHolds labels classes done out r)
    {text : List ℕ} {read : Result PathRead TextError} (told : PathTold labels text read) where
  together : Outcome (every_one read_path (behind_all done text)) (every_one (every_one (symbol_of labels))) (both r read) (Made behind_all (Gathered classes out) PathHolds)
  together = outcome_more read_path (every_one (symbol_of labels)) done text holds.told told.told

  -- 17 or 18 comes
  pub add_error : (e : TextError) → both r read ≡ Err e → SetHolds labels classes (behind_all done text) out (Err e)
  add_error e is =
      record {
        told = outcome_map (λ v. v.0) (λ v ps w k. cc) (sym (ap (on_ok (λ v. v.0)) is)) together;
        room = holds.room;
      }

  module _ {set : SetRead} {path : PathRead} (is : both r read ≡ Ok (set, path)) where
    -- what the set says with the path
    grows : {after : List ℕ} {used : library.Option ℕ} → length after ≡ 36
        → ((ps : List (List ℕ)) (p : List ℕ) → Gathered classes out set ps → PathHolds path p → is_some used ≡ (every (good_key_path classes 8) ps && good_key_path classes 8 p))
        → ((ps : List (List ℕ)) (p : List ℕ) → Gathered classes out set ps → PathHolds path p → is_some used ≡ true → set.count + 1 ≤ 4
        → SetIn after (set.count + 1) (unwrap_or used 0) (put_path p (in_record_order [] ps)) × (unwrap_or used 0 ≤ 9 * (set.count + 1)))
        → SetHolds labels classes (behind_all done text) after (Ok (record { count = set.count + 1; used = used }))
    unfolding Made
    grows {after} {used} size fit in_order =
        record { told = outcome_map (λ v. record { count = set.count + 1; used = used }) go (sym (ap (on_ok (λ v. record { count = set.count + 1; used = used })) is)) together; room = size }
      where
        go : (v : SetRead × PathRead) (d : List (List ℕ)) → both r read ≡ Ok v
            → (ps : List (List ℕ)) × (p : List ℕ) × (d ≡ behind_all ps p) × Gathered classes out v.0 ps × PathHolds v.1 p
            → Gathered classes after (record { count = set.count + 1; used = used }) d
        go v d w (ps, p, e, k, s) =
            let same-set : v ≡ (set, path) = cc in
            at ps p e (subst (λ (x : SetRead × PathRead). Gathered classes out x.0 ps) same-set k) (subst (λ (x : SetRead × PathRead). PathHolds x.1 p) same-set s)
          where
            counts : (ps : List (List ℕ)) (p : List ℕ) → length (behind_all ps p) ≡ length ps + 1
            counts ps p = unfold behind_all in length-append ps (p ∷ [])

            at : (ps : List (List ℕ)) (p : List ℕ) → d ≡ behind_all ps p → Gathered classes out set ps → PathHolds path p
                → Gathered classes after (record { count = set.count + 1; used = used }) d
            at ps p e k s =
                subst (λ (l : List (List ℕ)). Gathered classes after (record { count = set.count + 1; used = used }) l) (sym e)
                (record {
                  counted = ap (λ (n : ℕ). n + 1) k.counted ∙ sym (counts ps p);
                  fit = fit ps p k s ∙ sym (every_more (good_key_path classes 8) ps p);
                  bytes = every_more is_bytes ps p ∙ ap₂ ◌&&◌ k.bytes (bytes_are p s.slot.bytes);
                  stands = λ good few. subst (λ (l : List (List ℕ)). SetIn after (set.count + 1) (unwrap_or used 0) l) (sym (order_more [] ps p)) (in_order ps p k s good few).0;
                  short = λ good few. (in_order ps p k s good few).1;
                })

    -- a path does not pass 4, so there are no bytes
    unfit : ((ps : List (List ℕ)) (p : List ℕ) → Gathered classes out set ps → PathHolds path p → (every (good_key_path classes 8) ps && good_key_path classes 8 p) ≡ false)
        → SetHolds labels classes (behind_all done text) out (Ok (record { count = set.count + 1; used = library.None }))
    unfit fails = grows holds.room (λ ps p k s. sym (fails ps p k s)) (λ ps p k s e. false_true e)

    -- 4 came before
    pub add_unfit : set.used ≡ library.None → SetHolds labels classes (behind_all done text) out (Ok (record { count = set.count + 1; used = library.None }))
    add_unfit e =
        unfit (λ ps p k s. ap (λ (b : Bool). b && good_key_path classes 8 p) (sym (sym (ap (λ (o : library.Option ℕ). is_some o) e) ∙ k.fit)))

    module _ {used : ℕ} (so-far : set.used ≡ library.Some used) where
      all_so_far : (ps : List (List ℕ)) → Gathered classes out set ps → every (good_key_path classes 8) ps ≡ true
      all_so_far ps k = sym k.fit ∙ ap (λ (o : library.Option ℕ). is_some o) so-far

      used_is : unwrap_or set.used 0 ≡ used
      used_is = ap (λ (o : library.Option ℕ). unwrap_or o 0) so-far

      fits_so_far : is_some set.used ≡ true
      fits_so_far = ap (λ (o : library.Option ℕ). is_some o) so-far

      pub add_long : 8 < path.count → SetHolds labels classes (behind_all done text) out (Ok (record { count = set.count + 1; used = library.None }))
      add_long h = unfit (λ ps p k s. ap₂ ◌&&◌ (all_so_far ps k) (long_path classes p (omega (arith, s.slot.counted))))

      module _ (fewer : path.count ≤ 8) {g : Bool} (its : g ≡ good_key_path classes 8 (symbols_in path)) where
        its_good : (p : List ℕ) → PathHolds path p → {v : Bool} → g ≡ v → good_key_path classes 8 p ≡ v
        its_good p s q = sym (ap (good_key_path classes 8) (slot_symbols s.slot fewer)) ∙ (sym its ∙ q)

        pub add_bad : not g ≡ true → SetHolds labels classes (behind_all done text) out (Ok (record { count = set.count + 1; used = library.None }))
        add_bad q = unfit (λ ps p k s. ap₂ ◌&&◌ (all_so_far ps k) (its_good p s (not-true _ q)))

        module _ (fine : not g ≡ false) where
          all_good : (ps : List (List ℕ)) (p : List ℕ) → Gathered classes out set ps → PathHolds path p
              → true ≡ (every (good_key_path classes 8) ps && good_key_path classes 8 p)
          all_good ps p k s = sym (ap₂ ◌&&◌ (all_so_far ps k) (its_good p s (not-false _ fine)))

          -- one path too many: 5 comes where 4 does not
          pub add_over : 4 < set.count + 1 → SetHolds labels classes (behind_all done text) out (Ok (record { count = set.count + 1; used = library.Some 0 }))
          add_over h = grows holds.room all_good (λ ps p k s e few. absurd (omega arith))

          module _ (few : set.count + 1 ≤ 4) where
            -- what putting it in asks
            pub add_ready : InsertFits out set.count used (symbols_in path)
            unfolding Made
            add_ready = go together
              where
                at : (ps : List (List ℕ)) (p : List ℕ) → Gathered classes out set ps → PathHolds path p
                    → InsertFits out set.count used (symbols_in path)
                at ps p k q =
                    let short = k.short fits_so_far (omega arith) in
                    let size = ap length (slot_symbols q.slot fewer) in
                    record {
                      few = omega arith;
                      path_short = omega (arith, q.slot.counted);
                      small = omega (arith, used_is);
                      room = omega (arith, q.slot.counted, holds.room, used_is);
                      ends = rw used_is at (k.stands fits_so_far (omega arith)).ends;
                    }

                go : Outcome (every_one read_path (behind_all done text)) (every_one (every_one (symbol_of labels))) (both r read) (Made behind_all (Gathered classes out) PathHolds)
                    → InsertFits out set.count used (symbols_in path)
                go (Outcomes.known a d v w s t (ps, p, e, k, q)) =
                    let same-set : v ≡ (set, path) = cc in
                    at ps p (subst (λ (x : SetRead × PathRead). Gathered classes out x.0 ps) same-set k) (subst (λ (x : SetRead × PathRead). PathHolds x.1 p) same-set q)
                go (Outcomes.unknown a w s t) = cc
                go (Outcomes.torn w s) = cc

            pub add_in : {after : List ℕ} {end : ℕ} → Inserted out set.count used (symbols_in path) after end
                → SetHolds labels classes (behind_all done text) after (Ok (record { count = set.count + 1; used = library.Some end }))
            add_in {after} {end} i =
                grows (i.kept ∙ holds.room) all_good
                (λ ps p k s e few. (
                  subst (λ (l : List (List ℕ)). SetIn after (set.count + 1) end l)
                      (ap₂ put_path (slot_symbols s.slot fewer) (rw used_is at (k.stands fits_so_far (omega arith))).are) i.holds,
                  let short = k.short fits_so_far (omega arith) in
                      let size = ap length (slot_symbols s.slot fewer) in
                      omega (arith, i.used_up, s.slot.counted, used_is),
                ))

pub no_paths : (labels : List Label) (classes out : List ℕ) → length out ≡ 36 → SetHolds labels classes [] out (Ok (record { count = 0; used = library.Some 0 }))
unfolding every_one every in_record_order
no_paths labels classes out size =
    record {
      told =
          Outcomes.known [] [] _ refl refl refl
          (record {
            counted = refl;
            fit = refl;
            bytes = refl;
            stands = λ e few. set_in [] (omega arith) refl (unfold bytes_of flatten in refl);
            short = λ e few. omega arith;
          });
      room = size;
    }

-- no text at all: `{}`
pub set_none : (labels : List Label) (classes t out : List ℕ) → length out ≡ 36 → length t ≡ 0 → SetTold labels classes t out (Ok (record { count = 0; used = library.Some 0 }))
set_none labels classes t out size e = go t e
  where
    nothing : every_one read_path [] ≡ read_set []
    nothing = unfold every_one read_set in refl

    go : (t : List ℕ) → length t ≡ 0 → SetTold labels classes t out (Ok (record { count = 0; used = library.Some 0 }))
    go [] e = record { told = outcome_read nothing (no_paths labels classes out size).told; room = size }
    go (b ∷ t) e = absurd (omega arith)

pub set_read : {labels : List Label} {classes t out : List ℕ} {done : List (List ℕ)} {r : Result SetRead TextError} → (length t ≡ 0 → ⊥)
    → SetHolds labels classes done out r → done ≡ texts t → SetTold labels classes t out r
set_read {t = t} some-text g all =
    record { told = outcome_read (ap (every_one read_path) all ∙ sym (read_set_texts t some-text)) g.told; room = g.room }
