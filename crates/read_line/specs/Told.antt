-- What a line gives, return by return: 17, 18, 4, 5, 6, or the key's record.
use Rattle.std.specs.Prelude as library
use Rattle.std.specs.Prelude.{ℕ, ◌+◌, ◌-◌, ◌≤◌, ◌<◌, ◌≡◌, refl, Bool, true, false, cond, ◌&&◌, List, [], ◌∷◌, ◌++◌, ltb, leb, length, take, drop, is_some, unwrap_or, Result, Ok, Err, IfOk}
use Rattle.std.proofs.Common.{sym, ap, ap₂, subst, ◌∙◌, arith, ltb-true, length-append, length-take-le}
use Rattle.std.proofs.lemmas.Bool.{lt-leb, ltb-false}
use Rattle.std.proofs.lemmas.Result.{IfOk-at_ok}
use Rattle.std.proofs.Math.Decide.{dec_lt}
use Rattle.std.proofs.Math.Option.{none, some}
use Rattle.meaning.specs.Limits.{in_profile}
use Rattle.meaning.specs.Lists.{every}
use Rattle.meaning.specs.Paths.{Label, normal}
use Rattle.meaning.specs.Keys.{Key}
use Rattle.meaning.specs.Records.{read_key, key_in, word_bytes, record_bytes, path_bytes, key_body, key_bytes}
use Rattle.meaning.specs.Records.{is_some as is_some_key}
use Rattle.meaning.specs.Refusals.{first_of, good_set}
use Rattle.meaning.specs.Text.{TypedKey, typed_key}
use Rattle.theory_lists.specs.Bools.{of_true, and-false, and_first, and_second}
use Rattle.theory_records.specs.KeyBodies.{key_in_read, key_is_read}
use Rattle.theory_text.specs.Reading.{read_text}
use Rattle.read_judged.specs.declared.RefusalKind.{RefusalKind}
use Rattle.read_judged.specs.declared.RefusalKind.TheVariants as Kinds
use Rattle.read_judged.specs.Answers.{number_of, told, some_number}
use Rattle.read_record.specs.Classes.{is_symbol_by, good_path_by, good_symbols_by, key_tests_by}
use Rattle.read_record.specs.Tables.{ByteKey}
use Rattle.read_record.specs.PathBytes.{paths_bytes}
use Rattle.read_symbols.specs.declared.errors.TextError.{TextError}
use Rattle.read_symbols.specs.declared.errors.TextError.TheVariants as Errors
use Rattle.read_symbols.specs.declared.path.PathRead.{PathRead}
use Rattle.read_symbols.specs.Outcomes
use Rattle.read_symbols.specs.Outcomes.{Outcome}
use Rattle.read_symbols.specs.Scanning.{Slot, symbols_in}
use Rattle.read_typed.specs.declared.set.SetRead.{SetRead}
use Rattle.read_typed.specs.Gathering.{slot_symbols}
use Rattle.write_bytes.specs.Wrote.{Wrote, wrote_more, wrote_is, wrote_part}
use Rattle.write_line.specs.LineParts.{Sized, key_part, key_wrote}
use Rattle.write_set.specs.Encoded.{SetIn}
use Rattle.write_set.specs.Inserts.{drop_of_take}
use Rattle.read_line.specs.Known.{LineKnown, known_symbols, known_count, known_bytes}

-- 5 by the count of key paths, and 4 before it
abbrev pub by_count : Bool → Bool → ℕ
by_count none-there too_many = cond none-there 5 (cond too_many 5 0)

abbrev pub by_symbols : Bool → ℕ → ℕ
by_symbols fits later = cond fits later 4

-- 17 and 18
abbrev pub kind_of : TextError → RefusalKind
kind_of Errors.NotALine = Kinds.NotALine
kind_of Errors.UnknownName = Kinds.UnknownName

abbrev pub as_refusal : {A : Type 0} → Result A TextError → Result A RefusalKind
as_refusal (Ok v) = Ok v
as_refusal (Err e) = Err (kind_of e)

abbrev pub bytes_used : Result ℕ RefusalKind → ℕ
bytes_used (Ok used) = used
bytes_used (Err _) = 0

pub data LineTold (labels : List Label) (classes line out : List ℕ) (number used : ℕ) : Type 0 where
  not_line : number ≡ 17 → read_text line ≡ none → LineTold labels classes line out number used
  no_name : (k : TypedKey) → number ≡ 18 → read_text line ≡ some k → typed_key labels k ≡ none → LineTold labels classes line out number used
  is_typed : (k : TypedKey) (key : Key) → read_text line ≡ some k → typed_key labels k ≡ some key → ByteKey key
      → number ≡ first_of (key_tests_by classes in_profile key) → (number ≡ 0 → (take used out ≡ key_bytes key) × (used ≤ length out))
      → LineTold labels classes line out number used

-- ---- path_fits
pub fits_long : (classes path : List ℕ) (count : ℕ) → 8 < count → (p : List ℕ) → Slot count path p → false ≡ good_path_by classes 8 p
unfolding good_path_by
fits_long classes path count h p s =
    sym (ap (λ (b : Bool). every (is_symbol_by classes) p && normal p && b) (lt-leb (length p) 8 (omega (arith, s.counted))) ∙ and-false (every (is_symbol_by classes) p && normal p))

pub fits_good : (classes : List ℕ) (path : PathRead) → path.count ≤ 8 → {r : Bool} → r ≡ good_path_by classes 8 (symbols_in path) → (p : List ℕ) → Slot path.count path.path p
    → r ≡ good_path_by classes 8 p
fits_good classes path h e p s = e ∙ ap (good_path_by classes 8) (slot_symbols s h)

-- ---- put_record
key_part_length : (context target : List ℕ) (count : ℕ) (paths : List ℕ) → length (key_part context target count paths) ≡ 3 + length context + length target + length paths
unfolding key_part path_bytes
key_part_length context target count paths =
    omega (
      arith,
      length-append (length context ∷ context) ((length target ∷ target) ++ (count ∷ paths)),
      length-append (length target ∷ target) (count ∷ paths),
    )

pub record_wrote : {o a b c d e f : List ℕ} {p q r s t u : ℕ} (context target : List ℕ) (count : ℕ) (paths : List ℕ) {size : ℕ}
    → size ≡ 4 + 3 + length context + length target + length paths → Sized o a 0 (word_bytes size) 2 p → Sized a b p (word_bytes 2) 2 q
    → Sized b c q (path_bytes context) (length context + 1) r → Sized c d r (path_bytes target) (length target + 1) s → Wrote d e s (count ∷ []) t → Wrote e f t paths u
    → Wrote o f 0 (record_bytes 2 (key_part context target count paths)) u
unfolding record_bytes
record_wrote context target count paths {size} e w v x y z l =
    wrote_is
    (ap (λ (n : ℕ). word_bytes n ++ (word_bytes 2 ++ key_part context target count paths)) (e ∙ (let n = key_part_length context target count paths in omega arith)))
    (wrote_more w.wrote (wrote_more v.wrote (key_wrote context target count paths l z y x)))

-- ---- the line
pub line_torn : {labels : List Label} {classes line out : List ℕ} → read_text line ≡ none → LineTold labels classes line out 17 0
line_torn r = not_line refl r

cases : (m : ℕ) (b : Bool) → ltb m 1 ≡ b → (d : Bool) → ltb 4 m ≡ d → (by_count b d ≡ 0 → ⊥)
    → (by_count b d ≡ 5) × ((leb 1 m && leb m 4) ≡ false)
cases m true p d q n = (refl, ap (λ (x : Bool). x && leb m 4) (lt-leb 1 m (ltb-true _ _ p)))
cases m false p true q n = (refl, ap (λ (x : Bool). leb 1 m && x) (lt-leb m 4 (ltb-true _ _ q)) ∙ and-false (leb 1 m))
cases m false p false q n = absurd (n refl)

-- 4 or 5, as the key's tests have it
as_tests : (classes : List ℕ) (key : Key) {first : ℕ}
    → first ≡ by_symbols (good_symbols_by classes in_profile key) (by_count (ltb (length key.paths) 1) (ltb 4 (length key.paths))) → (first ≡ 0 → ⊥)
    → first ≡ first_of (key_tests_by classes in_profile key)
as_tests classes key {first} told n = go (good_symbols_by classes in_profile key) refl
  where
    go : (g : Bool) → good_symbols_by classes in_profile key ≡ g → first ≡ first_of (key_tests_by classes in_profile key)
    go false q = told ∙ four
      where
        four : by_symbols (good_symbols_by classes in_profile key) (by_count (ltb (length key.paths) 1) (ltb 4 (length key.paths))) ≡ first_of (key_tests_by classes in_profile key)
        four = unfold key_tests_by first_of in rw q
    go true q = told ∙ at
      where
        fives : by_count (ltb (length key.paths) 1) (ltb 4 (length key.paths)) ≡ 0 → ⊥
        fives z = n (told ∙ (ap (λ (g : Bool). by_symbols g (by_count (ltb (length key.paths) 1) (ltb 4 (length key.paths)))) q ∙ z))

        five : (by_count (ltb (length key.paths) 1) (ltb 4 (length key.paths)) ≡ 5) × ((leb 1 (length key.paths) && leb (length key.paths) 4) ≡ false)
        five = cases (length key.paths) (ltb (length key.paths) 1) refl (ltb 4 (length key.paths)) refl fives

        at : by_symbols (good_symbols_by classes in_profile key) (by_count (ltb (length key.paths) 1) (ltb 4 (length key.paths))) ≡ first_of (key_tests_by classes in_profile key)
        at = unfold key_tests_by first_of good_set in rw (q, five.0, five.1)

none_of_them : (f : Bool) (m : ℕ) → by_symbols f (by_count (ltb m 1) (ltb 4 m)) ≡ 0 → (f ≡ true) × (m ≤ 4)
none_of_them f m e = go f (ltb m 1) (ltb 4 m) refl e
  where
    go : (f b d : Bool) → ltb 4 m ≡ d → by_symbols f (by_count b d) ≡ 0 → (f ≡ true) × (m ≤ 4)
    go true false false q e = (refl, ltb-false 4 m q)
    go true false true q e = absurd (omega arith)
    go true true d q e = absurd (omega arith)
    go false b d q e = absurd (omega arith)

pub refused_ok : {A : Type 0} (r : Result A TextError) {v : A} → as_refusal r ≡ Ok v → r ≡ Ok v
refused_ok (Ok x) {v} e = let p : x ≡ v = cc in ap Ok p
refused_ok (Err d) e = cc

pub refused_error : {A : Type 0} (r : Result A TextError) {k : RefusalKind} → as_refusal r ≡ Err k → (e : TextError) × (r ≡ Err e) × (k ≡ kind_of e)
refused_error (Ok x) e = cc
refused_error (Err d) e = (d, refl, cc)

-- what is known where neither 17 nor 18 comes
pub record Read (labels : List Label) (classes line out : List ℕ) (c t : PathRead) (s : SetRead) : Type 0 where
  pub k : TypedKey
  pub key : Key
  pub reads : read_text line ≡ some k
  pub typed : typed_key labels k ≡ some key
  pub known : LineKnown classes out c t s key

module _ {labels : List Label} {classes line out : List ℕ} {r : Result ((PathRead × PathRead) × SetRead) TextError}
    (o : Outcome (read_text line) (typed_key labels) r (λ v key. LineKnown classes out v.0.0 v.0.1 v.1 key)) where
  -- 17 or 18
  pub line_error : (e : TextError) → r ≡ Err e → (after : List ℕ) → LineTold labels classes line after (number_of (kind_of e)) 0
  line_error e is after = go o
    where
      go : Outcome (read_text line) (typed_key labels) r (λ v key. LineKnown classes out v.0.0 v.0.1 v.1 key) → LineTold labels classes line after (number_of (kind_of e)) 0
      go (Outcomes.known k key v w s t n) = cc
      go (Outcomes.unknown k w s t) = let same : e ≡ Errors.UnknownName = cc in no_name k (ap (λ (x : TextError). number_of (kind_of x)) same) s t
      go (Outcomes.torn w s) = let same : e ≡ Errors.NotALine = cc in not_line (ap (λ (x : TextError). number_of (kind_of x)) same) s

  pub line_read : {c t : PathRead} {s : SetRead} → r ≡ Ok ((c, t), s) → Read labels classes line out c t s
  line_read {c} {t} {s} is = go o
    where
      go : Outcome (read_text line) (typed_key labels) r (λ v key. LineKnown classes out v.0.0 v.0.1 v.1 key) → Read labels classes line out c t s
      go (Outcomes.known k key v w q u n) =
          let same-parts : v ≡ ((c, t), s) = cc in
          record {
            k = k;
            key = key;
            reads = q;
            typed = u;
            known = subst (λ (x : (PathRead × PathRead) × SetRead). LineKnown classes out x.0.0 x.0.1 x.1 key) same-parts n;
          }
      go (Outcomes.unknown k w q u) = cc
      go (Outcomes.torn w q) = cc

-- what is known where none of 17, 18, 4 and the counts of 5 comes
pub record Fine (labels : List Label) (classes line out : List ℕ) (c t : PathRead) (s : SetRead) (used : ℕ) : Type 0 where
  pub read : Read labels classes line out c t s
  pub context_short : c.count ≤ 8
  pub target_short : t.count ≤ 8
  pub few : s.count ≤ 4
  pub fit : s.used ≡ library.Some used

module _ {labels : List Label} {classes line out : List ℕ} {c t : PathRead} {s : SetRead} (read : Read labels classes line out c t s) {x y : Bool}
    (fc : (p : List ℕ) → Slot c.count c.path p → x ≡ good_path_by classes 8 p) (ft : (p : List ℕ) → Slot t.count t.path p → y ≡ good_path_by classes 8 p)
    (r : Result ℕ RefusalKind) (e : told r ≡ by_symbols (x && y && is_some s.used) (by_count (ltb s.count 1) (ltb 4 s.count))) where
  as_key : told r ≡ by_symbols (good_symbols_by classes in_profile read.key) (by_count (ltb (length read.key.paths) 1) (ltb 4 (length read.key.paths)))
  as_key = e ∙ ap₂ (λ (f : Bool) (m : ℕ). by_symbols f (by_count (ltb m 1) (ltb 4 m))) (known_symbols read.known fc ft) (known_count read.known)

  pub line_first : (kind : RefusalKind) → r ≡ Err kind → (after : List ℕ) → LineTold labels classes line after (number_of kind) 0
  line_first kind is after =
      let number : told r ≡ number_of kind = ap told is in
      is_typed read.k read.key read.reads read.typed (known_bytes read.known)
      (as_tests classes read.key (sym number ∙ as_key) (some_number kind)) (λ z. absurd (some_number kind z))

  pub line_fine : {used : ℕ} → r ≡ Ok used → IfOk r (λ used. s.used ≡ library.Some used) → Fine labels classes line out c t s used
  line_fine {used} is bytes =
      let parts = none_of_them (x && y && is_some s.used) s.count (sym e ∙ ap told is) in
      let front = and_first (x && y) (is_some s.used) parts.0 in
      record {
        read = read;
        context_short = short c read.key.context read.known.context.slot (sym (fc read.key.context read.known.context.slot) ∙ and_first x y front);
        target_short = short t read.key.target read.known.target.slot (sym (ft read.key.target read.known.target.slot) ∙ and_second x y front);
        few = parts.1;
        fit = IfOk-at_ok (λ used. s.used ≡ library.Some used) is bytes;
      }
    where
      short : (path : PathRead) (p : List ℕ) → Slot path.count path.path p → good_path_by classes 8 p ≡ true → path.count ≤ 8
      short path p q g = go (dec_lt 8 path.count)
        where
          go : Dec (8 < path.count) → path.count ≤ 8
          go (yes l) = absurd (of_true false (fits_long classes path.path path.count l p q ∙ g))
          go (no l) = omega arith

-- the key put together
module _ {labels : List Label} {classes line out : List ℕ} {c t : PathRead} {s : SetRead} {end : ℕ} (f : Fine labels classes line out c t s end) where
  fits : is_some s.used ≡ true
  fits = ap (λ (o : library.Option ℕ). is_some o) f.fit

  used_is : unwrap_or s.used 0 ≡ end
  used_is = ap (λ (o : library.Option ℕ). unwrap_or o 0) f.fit

  set_in_order : SetIn out s.count end f.read.key.paths
  set_in_order = rw (← used_is, f.read.known.are) (f.read.known.kept.stands fits f.few)

  pub fine_used : end ≤ length out
  fine_used = set_in_order.within

  pub fine_short : length (take end out) ≤ 36
  fine_short =
      let h = f.read.known.kept.short fits f.few in
      let k = f.few in
      let u = used_is in
      let l = length-take-le end out fine_used in
      omega arith

  symbols_short : (path : PathRead) {p : List ℕ} → path.count ≤ 8 → Slot path.count path.path p → length (symbols_in path) ≤ 8
  symbols_short path h q = let e = ap length (slot_symbols q h) in let n = q.counted in omega arith

  pub fine_context : length (symbols_in c) ≤ 8
  fine_context = symbols_short c f.context_short f.read.known.context.slot

  pub fine_target : length (symbols_in t) ≤ 8
  fine_target = symbols_short t f.target_short f.read.known.target.slot

  body : key_part (symbols_in c) (symbols_in t) s.count (take end out) ≡ key_body f.read.key
  unfolding key_part key_body
  body =
      rw (
        slot_symbols f.read.known.context.slot f.context_short,
        slot_symbols f.read.known.target.slot f.target_short,
        known_count f.read.known,
        sym (paths_bytes s.count (take end out) set_in_order.ends),
        set_in_order.are,
      )

  module _ {before after : List ℕ} {used : ℕ} (w : Wrote before after 0 (record_bytes 2 (key_part (symbols_in c) (symbols_in t) s.count (take end out))) used) where
    written : take used after ≡ key_bytes f.read.key
    written = wrote_part w ∙ (ap (record_bytes 2) body ∙ (unfold key_bytes in refl))

    pub fine_head : 4 ≤ used
    fine_head = let e = w.after in let n = record_long f.read.key in let b = ap (λ (l : List ℕ). length (record_bytes 2 l)) body in omega arith
      where
        record_long : (key : Key) → 4 ≤ length (record_bytes 2 (key_body key))
        record_long key = unfold record_bytes word_bytes in omega arith

    pub fine_within : used ≤ length after
    fine_within = let e = w.after in let r = w.room in let k = w.kept in omega arith

    body_is : take (used - 4) (drop 4 after) ≡ key_body f.read.key
    body_is = sym (drop_of_take 4 used after fine_head) ∙ (ap (drop 4) written ∙ (unfold key_bytes record_bytes word_bytes in refl))

    pub fine_whole : is_some_key (read_key (take (used - 4) (drop 4 after))) ≡ true
    fine_whole = ap (λ (l : List ℕ). is_some_key (read_key l)) body_is ∙ key_is_read f.read.key

    -- 6, or the record
    module _ (r : Result Unit RefusalKind) (e : told r ≡ first_of (key_tests_by classes in_profile (key_in (take (used - 4) (drop 4 after))))) where
      of_key : told r ≡ first_of (key_tests_by classes in_profile f.read.key)
      of_key = e ∙ ap (λ (k : Key). first_of (key_tests_by classes in_profile k)) (ap key_in body_is ∙ key_in_read f.read.key)

      pub line_last : (kind : RefusalKind) → r ≡ Err kind → LineTold labels classes line after (number_of kind) 0
      line_last kind is =
          is_typed f.read.k f.read.key f.read.reads f.read.typed (known_bytes f.read.known) (sym (ap told is) ∙ of_key) (λ z. absurd (some_number kind z))

      pub line_whole : {u : Unit} → r ≡ Ok u → LineTold labels classes line after 0 used
      line_whole is = is_typed f.read.k f.read.key f.read.reads f.read.typed (known_bytes f.read.known) (sym (ap told is) ∙ of_key) (λ z. (written, fine_within))
