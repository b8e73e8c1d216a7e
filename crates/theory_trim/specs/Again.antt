-- 02, request 10: trimming what is trimmed changes nothing.
use Prim.Native.Nat.{ℕ, zero, suc, ◌+◌, ◌-◌, ◌≤◌, ◌<◌}
use Rattle.std.specs.Prelude.{◌≡◌, refl, Bool}
use Rattle.std.proofs.Common.{sym, ap, ◌∙◌, arith}
use Rattle.std.proofs.Math.Path.{subst}
use mathlib.Core.List.{List, [], ◌∷◌, map, Memᴰ}
use Rattle.std.proofs.Math.Option.{some}
use Rattle.std.proofs.Math.Decide.{dec_lt}
use Rattle.std.proofs.Math.ListN.{length, get_or, get_elem?}
use Rattle.meaning.specs.Lists.{numbers}
use Rattle.meaning.specs.Paths.{Label}
use Rattle.meaning.specs.Keys.{Key}
use Rattle.meaning.specs.Rules.{Line, EndsWith, Accepted, line_keys}
use Rattle.meaning.specs.Trimming.{earliest, pointed, with_premises, premises, no_line, line_at, needed, place_in, trimmed_lines}
use Rattle.theory_lists.specs.Logic.{found_below}
use Rattle.theory_derive.specs.Accept.{line_keys_length}
use Rattle.theory_lists.specs.Lists.{at_get_d}
use Rattle.theory_trim.specs.Numbered.{get_or_is, mem_map, rising_all, place_numbers, at_numbers}
use Rattle.theory_trim.specs.Firsts.{pointed_stands}
use Rattle.theory_trim.specs.Needs.{wants, needs_wanted, needs_closed}
use Rattle.theory_trim.specs.Premises.{unchanged}
use Rattle.theory_trim.specs.Trimmed.{UsedLater, stay_needs, stay_rising, stay_within, end_stands, premise_before, trimmed_accepted, trimmed_used, trimmed_once}

map_same : {A B : Type 0} (f g : A → B) (xs : List A) → ((x : A) → Memᴰ x xs → f x ≡ g x) → map f xs ≡ map g xs
map_same f g [] h = refl
map_same {A} {B} f g (x ∷ xs) h =
    ap (λ (y : B). y ∷ map f xs) (h x (mathlib.Core.List.Memᴰ.head refl)) ∙ ap (λ (l : List B). g x ∷ l) (map_same f g xs (λ y m. h y (mathlib.Core.List.Memᴰ.tail m)))

-- An accepted proof without a doubled key in which each line but the last is used is trimmed already
module _ (single : ℕ → Bool) (labels : List Label) (keys : List Key) (question : Key) (lines : List Line)
    (a : Accepted single labels keys question lines)
    (once : (i j : ℕ) (k : Key) → get_elem? (line_keys lines) i ≡ some k → get_elem? (line_keys lines) j ≡ some k → i ≡ j)
    (used : (i : ℕ) → i < length lines - 1 → UsedLater lines i) where
  pointed_same : (x : ℕ) → x < length lines → pointed lines x ≡ x
  pointed_same x h =
      let e : get_elem? (line_keys lines) x ≡ some (get_or (line_keys lines) x no_line.key) =
      at_get_d (line_keys lines) x no_line.key (omega (arith, line_keys_length lines)) in
      once (pointed lines x) x _ (pointed_stands lines x e) e

  end_last : earliest (line_keys lines) question ≡ length lines - 1
  unfolding EndsWith
  end_last = once _ _ question (end_stands single labels keys question lines a) a.last

  all_stay : (d i : ℕ) → i < length lines → length lines ≤ i + d → Memᴰ i (needed lines question)
  unfolding wants line_at
  all_stay zero i h k = absurd (omega arith)
  all_stay (suc d) i h k = go (λ j p q. all_stay d j p q) (dec_lt i (length lines - 1))
    where
      by_use : ((j : ℕ) → j < length lines → length lines ≤ j + d → Memᴰ j (needed lines question)) → UsedLater lines i
          → Memᴰ i (needed lines question)
      by_use more u =
          let within = found_below lines u.by u.stands in
          let m = more u.by within (let l = u.later in omega arith) in
          let p : Memᴰ i (premises (get_or lines u.by no_line)) =
          subst (λ (l : Line). Memᴰ i (premises l)) (sym (get_or_is lines u.by no_line u.stands)) u.among in
          needs_closed (stay_needs single labels keys question lines a) u.by i m
          (subst (λ (x : ℕ). Memᴰ x (map (pointed lines) (premises (get_or lines u.by no_line)))) (pointed_same i h) (mem_map (pointed lines) p))
          u.later

      go : ((j : ℕ) → j < length lines → length lines ≤ j + d → Memᴰ j (needed lines question)) → Dec (i < length lines - 1)
          → Memᴰ i (needed lines question)
      go more (yes l) = by_use more (used i l)
      go more (no l) =
          let e : i ≡ earliest (line_keys lines) question = let z = end_last in omega arith in
          needs_wanted (stay_needs single labels keys question lines a) i (mathlib.Core.List.Memᴰ.head e) (omega arith)

  stay_all : needed lines question ≡ numbers (length lines) 0
  stay_all =
      rising_all (length lines) 0 (stay_rising single labels keys question lines a)
      (λ x m. let h = stay_within single labels keys question lines a x m in omega arith)
      (λ x l h. all_stay (length lines) x (omega arith) (omega arith))

  pub trim_fixed : trimmed_lines lines question ≡ lines
  unfolding trimmed_lines line_at
  trim_fixed =
      map_same (λ (n : ℕ). with_premises move (line_at lines n)) (λ (n : ℕ). get_or lines n no_line) (needed lines question) same
      ∙ (ap (map (λ (n : ℕ). get_or lines n no_line)) stay_all ∙ at_numbers lines [] no_line)
    where
      move : ℕ → ℕ
      move p = place_in (needed lines question) (pointed lines p)

      moves : (x : ℕ) → x < length lines → move x ≡ x
      moves x h =
          ap (place_in (needed lines question)) (pointed_same x h)
          ∙ (ap (λ (l : List ℕ). place_in l x) stay_all ∙ (let e = place_numbers (length lines) 0 x (omega arith) (omega arith) in omega arith))

      same : (n : ℕ) → Memᴰ n (needed lines question) → with_premises move (line_at lines n) ≡ get_or lines n no_line
      same n m =
          let h = stay_within single labels keys question lines a n m in
          unchanged move (line_at lines n)
          (λ x p. let b = premise_before single labels keys question lines a n x h p in moves x (let l = b.1 in omega arith))

-- "trimming again changes nothing"
pub trimmed_again : (single : ℕ → Bool) (labels : List Label) (keys : List Key) (question : Key) (lines : List Line) → Accepted single labels keys question lines
    → trimmed_lines (trimmed_lines lines question) question ≡ trimmed_lines lines question
trimmed_again single labels keys question lines a =
    trim_fixed single labels keys question (trimmed_lines lines question) (trimmed_accepted single labels keys question lines a)
    (trimmed_once single labels keys question lines a) (trimmed_used single labels keys question lines a)
