-- The earliest line with the key of a line, found by comparing key bodies.
use Rattle.std.specs.Prelude.{ℕ, zero, suc, ◌+◌, ◌-◌, ◌≤◌, ◌<◌, ◌≡◌, refl, ◌⊎◌, Bool, true, false, cond, length, get_or, set, take, ◌==◌}
use Rattle.std.specs.Cmp.Lexicographic.{pointwise}
use Rattle.read_record.specs.Library.{same_list}
use Rattle.std.proofs.Common.{sym, subst, ◌∙◌, inl, inr, arith, eq-or-lt_of_le, le_of_suc-le-suc, add-one, length-set, get_or-set_same, get_or-set_other}
use Rattle.std.proofs.Math.Path.{ap, ap₂}
use mathlib.Core.List.{List, [], ◌∷◌}
use Rattle.std.proofs.Math.Option.{some, none-ne-some, some-injective}
use Rattle.std.proofs.Math.ListN.{drop, get_elem?}
use borrow.Author.Rules.{part_to_end}
use Rattle.meaning.specs.Lists.{same}
use Rattle.meaning.specs.Keys.{Key}
use Rattle.meaning.specs.Rules.{line_keys}
use Rattle.meaning.specs.Records.{no_key, key_body, key_in, record_body}
use Rattle.meaning.specs.Operations.{records_from}
use Rattle.meaning.specs.Trimming.{earliest, pointed}
use Rattle.theory_lists.specs.Bools.{true_of, same_refl}
use Rattle.theory_records.specs.Heads.{body_length}
use Rattle.theory_records.specs.KeyBodies.{key_in_written}
use Rattle.rule_premises.specs.Premises.{lines_from, line_at}
use Rattle.theory_trim.specs.Numbered.{get_or_is}
use Rattle.rule_stands.specs.Standing.{Standing, LineThere, line_here}

-- where a key stands and none of the keys before is the same, it stands earliest
pub earliest_at : (keys : List Key) (k : Key) (i : ℕ) {m : Key} → get_elem? keys i ≡ some m → same (key_body m) (key_body k) ≡ true
    → ((j : ℕ) → j < i → (x : Key) → get_elem? keys j ≡ some x → same (key_body x) (key_body k) ≡ false) → i ≡ earliest keys k
unfolding earliest
earliest_at [] k i e s h = absurd (none-ne-some _ e)
earliest_at (x ∷ keys) k zero e s h =
    ap (λ (b : Bool). cond b 0 (suc (earliest keys k)))
    (sym (ap (λ (y : Key). same (key_body y) (key_body k)) (some-injective _ _ e) ∙ s))
earliest_at (x ∷ keys) k (suc i) e s h =
    ap suc (earliest_at keys k i e s (λ j l y q. h (suc j) (omega arith) y q))
    ∙ ap (λ (b : Bool). cond b 0 (suc (earliest keys k))) (sym (h 0 (omega arith) x refl))

-- the key body of line i
unfoldable pub key_at : List ℕ → ℕ → List ℕ
key_at proof i = drop 5 (record_body (records_from i proof))

-- r is the earliest line with the key of line n
pub record FirstOf (proof : List ℕ) (n r : ℕ) : Type 0 where
  pub within : r ≤ n
  pub is : (count : ℕ) → n < count → r ≡ pointed (lines_from count proof) n

-- the loop: no line before line i has the key of line n
pub record Apart (proof : List ℕ) (n i : ℕ) : Type 0 where
  pub within : i ≤ n
  pub none : (j : ℕ) → j < i → same (key_at proof j) (key_at proof n) ≡ false

pub apart_start : (proof : List ℕ) (n : ℕ) → Apart proof n 0
apart_start proof n = record { within = omega arith; none = λ j h. absurd (omega arith) }

module _ {n : ℕ} {proof at : List ℕ} (s : Standing (suc n) proof at) where
  pub own_there : LineThere proof (get_or at n 0)
  own_there = line_here s n (omega arith)

  pub other_there : (i : ℕ) → i < n → LineThere proof (get_or at i 0)
  other_there i h = line_here s i (omega arith)

  -- a body has its five bytes before the key
  pub body_long : (i : ℕ) → i ≤ n → {body : List ℕ} → body ≡ record_body (drop (get_or at i 0) proof) → 5 ≤ length body
  body_long i h e =
      let r = (line_here s i (omega arith)).line in
      let a = r.long in
      omega (arith, ap length e, body_length (drop (get_or at i 0) proof) r.within)

  key_is : (i : ℕ) → i ≤ n → {body : List ℕ} → body ≡ record_body (drop (get_or at i 0) proof) → take (length body - 5) (drop 5 body) ≡ key_at proof i
  unfolding key_at
  key_is i h {body} e =
      part_to_end body 5 ∙ ap (drop 5) e ∙ ap (λ (l : List ℕ). drop 5 (record_body l)) (s.place i (omega arith))

  written : (i : ℕ) → i ≤ n → key_body (key_in (key_at proof i)) ≡ key_at proof i
  unfolding key_at
  written i h = key_in_written _ (s.earlier.each i (omega arith)).key.shape

  first_at : (i : ℕ) → Apart proof n i → same (key_at proof i) (key_at proof n) ≡ true → FirstOf proof n i
  unfolding pointed key_at
  first_at i a e =
      let w = a.within in
      record {
        within = w;
        is =
            λ count h.
            earliest_at (line_keys (lines_from count proof)) (key_in (key_at proof n)) i (line_at count i proof (omega arith))
            (ap₂ same (written i w) (written n (omega arith)) ∙ e)
            (λ j l x q.
            ap (λ (y : Key). same (key_body y) (key_body (key_in (key_at proof n)))) (some-injective _ _ (sym q ∙ line_at count j proof (omega arith)))
            ∙ ap₂ same (written j (omega arith)) (written n (omega arith)) ∙ a.none j l)
            ∙ ap (earliest (line_keys (lines_from count proof))) (sym (get_or_is (line_keys (lines_from count proof)) n no_key (line_at count n proof h)));
      }

  -- no other line before has it
  pub first_own : {i : ℕ} → Apart proof n i → n ≤ i → FirstOf proof n n
  first_own {i} a h =
      let w = a.within in
      let e : i ≡ n = omega arith in
      first_at n (subst (Apart proof n) e a) (true_of _ (same_refl (key_at proof n)))

  module _ {i : ℕ} (a : Apart proof n i) (less : i < n) {other own : List ℕ} (is_other : other ≡ record_body (drop (get_or at i 0) proof))
      (is_own : own ≡ record_body (drop (get_or at n 0) proof)) {b : Bool}
      (told : b ≡ pointwise ◌==◌ (take (length other - 5) (drop 5 other)) (take (length own - 5) (drop 5 own))) where
    compared : b ≡ same (key_at proof i) (key_at proof n)
    compared = told ∙ same_list _ _ ∙ ap₂ same (key_is i (omega arith) is_other) (key_is n (omega arith) is_own)

    pub first_same : b ≡ true → FirstOf proof n i
    first_same e = first_at i a (sym compared ∙ e)

    pub apart_more : b ≡ false → Apart proof n (i + 1)
    apart_more e = rw add-one (record { within = less; none = λ j h. go j (eq-or-lt_of_le (le_of_suc-le-suc h)) })
      where
        go : (j : ℕ) → (j ≡ i) ⊎ (j < i) → same (key_at proof j) (key_at proof n) ≡ false
        go j (inl q) = subst (λ (m : ℕ). same (key_at proof m) (key_at proof n) ≡ false) (sym q) (sym compared ∙ e)
        go j (inr h) = a.none j h

-- for each line before n the earliest with its key
pub record Pointing (n count : ℕ) (proof firsts : List ℕ) : Type 0 where
  pub size : length firsts ≡ 256
  pub within : (i : ℕ) → i < n → get_or firsts i 0 ≤ i
  pub is : (i : ℕ) → i < n → get_or firsts i 0 ≡ pointed (lines_from count proof) i

pub pointing_more : {n count : ℕ} {proof firsts : List ℕ} → Pointing n count proof firsts → n < count → count ≤ 256 → {r : ℕ} → FirstOf proof n r
    → Pointing (n + 1) count proof (set firsts n r)
pointing_more {n} {count} {proof} {firsts} p less few {r} f =
    rw add-one
    (record {
      size = length-set firsts n r ∙ p.size;
      within = λ i h. low i (eq-or-lt_of_le (le_of_suc-le-suc h));
      is = λ i h. points i (eq-or-lt_of_le (le_of_suc-le-suc h));
    })
  where
    here : get_or (set firsts n r) n 0 ≡ r
    here = get_or-set_same firsts n r 0 (let e = p.size in omega arith)

    low : (i : ℕ) → (i ≡ n) ⊎ (i < n) → get_or (set firsts n r) i 0 ≤ i
    low i (inl q) = subst (λ (j : ℕ). get_or (set firsts n r) j 0 ≤ j) (sym q) (let w = f.within in let e = here in omega arith)
    low i (inr h) = let w = p.within i h in omega (arith, get_or-set_other firsts n i r 0 (λ q. omega arith))

    points : (i : ℕ) → (i ≡ n) ⊎ (i < n) → get_or (set firsts n r) i 0 ≡ pointed (lines_from count proof) i
    points i (inl q) = subst (λ (j : ℕ). get_or (set firsts n r) j 0 ≡ pointed (lines_from count proof) j) (sym q) (here ∙ f.is count less)
    points i (inr h) = get_or-set_other firsts n i r 0 (λ q. omega arith) ∙ p.is i h

pub pointing_all : {n count : ℕ} {proof firsts : List ℕ} → Pointing n count proof firsts → n ≤ count → count ≤ n → Pointing count count proof firsts
pointing_all {n} {count} {proof} {firsts} p a b = let e : n ≡ count = omega arith in subst (λ (m : ℕ). Pointing m count proof firsts) e p
