-- The labels of the pattern: "each any-path drawn as one filler element", every other label the symbol itself, and every parent an element.
use Prim.Native.Nat.{ℕ, zero, suc, ◌+◌, ◌≤◌, ◌<◌}
use Rattle.std.specs.Prelude.{◌≡◌, refl, ◌⊎◌, Bool, cond, ◌||◌, get_or}
use Rattle.std.proofs.Common.{sym, inl, inr, ⊎_elim}
use Rattle.std.proofs.Math.Path.{ap, subst}
use mathlib.Core.List.{List, [], ◌∷◌, map, Memᴰ}
use native.Mathlib.Omega.{arith}
use Rattle.std.proofs.Math.Decide.{dec_lt}
use Rattle.std.proofs.Math.Dec.{T, eqb, eqb→eq, eqb-suc-zero}
use Rattle.std.proofs.Math.ListN.{length}
use Rattle.meaning.specs.Limits.{filler_element}
use Rattle.meaning.specs.Lists.{every, is_empty}
use Rattle.meaning.specs.Paths.{Label, declared, is_label, is_element, class_of, valid, member}
use Rattle.meaning.specs.Refusals.{is_symbol}
use Rattle.meaning.specs.Trees.{Node, no_node}
use Rattle.meaning.specs.Pattern.{drawn, run, branches}
use Rattle.theory_lists.specs.Bools.{or_cases, or_left, or_right, every_head, every_tail}
use Rattle.theory_paths.specs.Words.{Word, word→member}
use Rattle.theory_paths.specs.Valid.{may_step, valid_first, valid_tail}
use Rattle.theory_paths.specs.Good.{GoodLabels, filler_element_lem, symbol_not_high}
use Rattle.theory_pattern.specs.Numbered.{Numbered, none, next, Is, numbered_append, numbered_left, numbered_right}
use Rattle.theory_pattern.specs.Branches.{last}
use Rattle.theory_pattern.specs.Numbers.{run_length}

drawn_zero : drawn 0 ≡ filler_element
unfolding drawn
drawn_zero = refl

drawn_suc : (a : ℕ) → drawn (suc a) ≡ suc a
unfolding drawn
drawn_suc a = ap (λ (b : Bool). cond b filler_element (suc a)) (eqb-suc-zero a)

-- every path has its drawing as a word
pub drawn_word : (p : List ℕ) → Word p (map drawn p)
unfolding Word
drawn_word [] = refl
drawn_word (zero ∷ p) = (filler_element ∷ [], map drawn p, ap (λ (k : ℕ). k ∷ map drawn p) drawn_zero, drawn_word p)
drawn_word (suc a ∷ p) = (map drawn p, ap (λ (k : ℕ). k ∷ map drawn p) (drawn_suc a), drawn_word p)

pub drawn_member : (p : List ℕ) → T (member p (map drawn p))
drawn_member p = word→member p (map drawn p) (drawn_word p)

-- A label that a tree file may hold below its root, and not the filler attribute's
pub record Known (labels : List Label) (l : ℕ) : Type 0 where
  pub is_known : T (is_label labels l)
  pub small : l ≤ filler_element

module _ (labels : List Label) (good : GoodLabels labels) where
  drawn_known : (s : ℕ) → T (is_symbol labels s) → Known labels (drawn s)
  unfolding is_label drawn is_symbol
  drawn_known zero h =
      record { is_known = or_left (eqb 201 1 || declared labels 201 || eqb 201 201) (eqb 201 202) (or_right (eqb 201 1 || declared labels 201) (eqb 201 201) tt); small = omega arith }
  drawn_known (suc a) h =
      subst (λ (l : ℕ). Known labels l) (sym (drawn_suc a))
      (record { is_known = go (or_cases (eqb (suc a) 0 || eqb (suc a) 1) (declared labels (suc a)) h); small = bound (dec_lt 200 (suc a)) })
    where
      either : T (eqb (suc a) 0) ⊎ T (eqb (suc a) 1) → T (eqb (suc a) 1)
      either (inl e) = absurd (number e)
        where
          number : T (eqb (suc a) 0) → ⊥
          number e = let q = eqb→eq (suc a) 0 e in omega arith
      either (inr e) = e

      go : T (eqb (suc a) 0 || eqb (suc a) 1) ⊎ T (declared labels (suc a)) → T (is_label labels (suc a))
      go (inl e) =
          or_left (eqb (suc a) 1 || declared labels (suc a) || eqb (suc a) 201) (eqb (suc a) 202)
          (or_left (eqb (suc a) 1 || declared labels (suc a)) (eqb (suc a) 201)
          (or_left (eqb (suc a) 1) (declared labels (suc a)) (either (or_cases (eqb (suc a) 0) (eqb (suc a) 1) e))))
      go (inr e) =
          or_left (eqb (suc a) 1 || declared labels (suc a) || eqb (suc a) 201) (eqb (suc a) 202)
          (or_left (eqb (suc a) 1 || declared labels (suc a)) (eqb (suc a) 201) (or_right (eqb (suc a) 1) (declared labels (suc a)) e))

      bound : Dec (200 < suc a) → suc a ≤ filler_element
      bound (yes q) = absurd (symbol_not_high labels good (suc a) q h)
      bound (no q) = omega arith

  pub run_known : (above n : ℕ) (p : List ℕ) → T (every (is_symbol labels) p) → Numbered (λ (m : ℕ) (x : Node). Known labels x.label) n (run above n p)
  unfolding run
  run_known above n [] h = none
  run_known above n (s ∷ p) h =
      next (drawn_known s (every_head (is_symbol labels) s p h)) (run_known n (suc n) p (every_tail (is_symbol labels) s p h))

  pub branches_known : (t n : ℕ) (S : List (List ℕ)) → ((P : List ℕ) → Memᴰ P S → T (every (is_symbol labels) P))
      → Numbered (λ (m : ℕ) (x : Node). Known labels x.label) n (branches t n S)
  unfolding branches
  branches_known t n [] h = none
  branches_known t n (p ∷ S) h =
      numbered_append (n + length p) (ap (λ (k : ℕ). n + k) (sym (run_length t n p))) (run_known t n p (h p (Memᴰ.head refl)))
      (branches_known t (n + length p) S (λ P m. h P (Memᴰ.tail m)))

  -- a symbol that may stand before another is drawn as an element
  step_element : (s : ℕ) → T (may_step (class_of labels) s) → T (is_element (class_of labels (drawn s)))
  unfolding may_step
  step_element zero h = subst (λ (l : ℕ). T (is_element (class_of labels l))) (sym drawn_zero) (filler_element_lem labels good)
  step_element (suc a) h =
      subst (λ (l : ℕ). T (is_element (class_of labels l))) (sym (drawn_suc a))
      (⊎_elim (λ e. absurd (number e)) (λ e. e) (or_cases (eqb (suc a) 0) (is_element (class_of labels (suc a))) h))
    where
      number : T (eqb (suc a) 0) → ⊥
      number e = let q = eqb→eq (suc a) 0 e in omega arith

-- the node's parent, found in the whole list, is an element
unfoldable pub Inside : List Label → List Node → ℕ → Node → Type 0
Inside labels whole m x = T (is_element (class_of labels (get_or whole x.parent no_node).label))

unfoldable pub IsElementAt : List Label → List Node → ℕ → Type 0
IsElementAt labels whole m = T (is_element (class_of labels (get_or whole m no_node).label))

module _ (labels : List Label) (good : GoodLabels labels) (whole : List Node) where
  drawn_here : (above n s : ℕ) → Is whole n (record { parent = above; label = drawn s; value = 0 }) → T (may_step (class_of labels) s)
      → IsElementAt labels whole n
  unfolding Is IsElementAt
  drawn_here above n s e h =
      subst (λ (l : ℕ). T (is_element (class_of labels l))) (sym (ap (λ (x : Node). x.label) e)) (step_element labels good s h)

  pub run_inside : (above n : ℕ) (p : List ℕ) → Numbered (Is whole) n (run above n p) → (0 < length p → IsElementAt labels whole above)
      → T (valid (class_of labels) p) → Numbered (Inside labels whole) n (run above n p)
  unfolding run Inside IsElementAt is_empty
  run_inside above n [] l a v = none
  run_inside above n (s ∷ []) (next e l) a v = next (a (omega arith)) none
  run_inside above n (s ∷ r ∷ p) (next e l) a v =
      next (a (omega arith))
      (run_inside n (suc n) (r ∷ p) l (λ h. drawn_here above n s e (valid_first (class_of labels) s (r ∷ p) v))
      (valid_tail (class_of labels) s (r ∷ p) v))

  -- the last node of a run whose symbols all step on
  pub last_element : (above n : ℕ) (p : List ℕ) → Numbered (Is whole) n (run above n p) → IsElementAt labels whole above
      → T (every (may_step (class_of labels)) p) → IsElementAt labels whole (last above n p)
  unfolding run last
  last_element above n [] l a h = a
  last_element above n (s ∷ p) (next e l) a h =
      last_element n (suc n) p l (drawn_here above n s e (every_head (may_step (class_of labels)) s p h))
      (every_tail (may_step (class_of labels)) s p h)

  pub branches_inside : (t n : ℕ) (S : List (List ℕ)) → Numbered (Is whole) n (branches t n S)
      → ((P : List ℕ) → Memᴰ P S → 0 < length P → IsElementAt labels whole t) → ((P : List ℕ) → Memᴰ P S → T (valid (class_of labels) P))
      → Numbered (Inside labels whole) n (branches t n S)
  unfolding branches
  branches_inside t n [] l a v = none
  branches_inside t n (p ∷ S) l a v =
      let e : n + length p ≡ n + length (run t n p) = ap (λ (k : ℕ). n + k) (sym (run_length t n p)) in
      numbered_append (n + length p) e
      (run_inside t n p (numbered_left (run t n p) (branches t (n + length p) S) l) (a p (Memᴰ.head refl)) (v p (Memᴰ.head refl)))
      (branches_inside t (n + length p) S (numbered_right (n + length p) (run t n p) (branches t (n + length p) S) e l)
      (λ P m. a P (Memᴰ.tail m)) (λ P m. v P (Memᴰ.tail m)))
