-- The marks of a run of nodes, as the code gives them: none on the way to t, at t and below it as the pattern is marked.
use Prim.Native.Nat.{ℕ, suc, ◌+◌, ◌-◌, ◌≤◌, ◌<◌}
use Rattle.std.specs.Prelude.{◌≡◌, Bool, ◌&&◌, ◌||◌, leb, eqb}
use Rattle.std.proofs.Math.Path.{refl, sym, ap}
use Rattle.std.proofs.Common.{◌∙◌}
use Rattle.std.proofs.Math.Bool.{true, false, cond}
use mathlib.Core.List.{List, [], ◌∷◌}
use native.Mathlib.Omega.{arith}
use Rattle.std.proofs.Math.ListN.{length}
use borrow.Author.Tests.{eq-eqb, ne_eqb, le-leb, lt-leb}
use Rattle.meaning.specs.Lists.{any, is_empty}
use Rattle.meaning.specs.Keys.{Key}
use Rattle.meaning.specs.Pattern.{t_of, ends, marked}
use Rattle.theory_lists.specs.Bools.{false_of}
use Rattle.theory_pattern.specs.Branches.{longs, ends_after}
use Rattle.theory_counter.specs.PatternLaws.{longs_of}

no_end : (t n x : ℕ) (S : List (List ℕ)) → longs S → x < n → any (eqb x) (ends t n S) ≡ false
no_end t n x S l h = false_of (any (eqb x) (ends t n S)) (λ k. let r = ends_after t n x S l k in omega arith)

module _ (asked : Key) where
  -- nodes n, n + 1, .. of a path, marked all (`every`) or at the last (`last`)
  unfoldable pub MarksOf : Bool → Bool → ℕ → List ℕ → Type 0
  MarksOf every last n [] = Unit {0}
  MarksOf every last n (s ∷ p) = (marked asked n ≡ (every || (last && is_empty p))) × MarksOf every last (suc n) p

  pub unmarked_above : (x : ℕ) → x < t_of asked → marked asked x ≡ false
  unfolding marked
  unmarked_above x h = go (any is_empty asked.paths) refl
    where
      go : (b : Bool) → any is_empty asked.paths ≡ b → cond b (leb (t_of asked) x) (any (eqb x) (ends (t_of asked) (suc (t_of asked)) asked.paths)) ≡ false
      go true e = lt-leb (t_of asked) x h
      go false e = no_end (t_of asked) (suc (t_of asked)) x asked.paths (longs_of asked.paths e) (omega arith)

  -- t is marked "if S holds the empty path"
  marked_t : marked asked (t_of asked) ≡ any is_empty asked.paths
  unfolding marked
  marked_t = go (any is_empty asked.paths) refl
    where
      go : (b : Bool) → any is_empty asked.paths ≡ b
          → cond b (leb (t_of asked) (t_of asked)) (any (eqb (t_of asked)) (ends (t_of asked) (suc (t_of asked)) asked.paths)) ≡ b
      go true e = le-leb (t_of asked) (t_of asked) (omega arith)
      go false e = no_end (t_of asked) (suc (t_of asked)) (t_of asked) asked.paths (longs_of asked.paths e) (omega arith)

  pub marks_trunk : (n : ℕ) (p : List ℕ) → n + length p ≤ t_of asked → MarksOf false false n p
  unfolding MarksOf
  marks_trunk n [] h = tt
  marks_trunk n (s ∷ p) h = (unmarked_above n (omega arith), marks_trunk (suc n) p (omega arith))

  pub marks_down : (n : ℕ) (p : List ℕ) → n + length p ≡ suc (t_of asked) → MarksOf false (any is_empty asked.paths) n p
  unfolding MarksOf is_empty
  marks_down n [] h = tt
  marks_down n (s ∷ []) h = (ap (marked asked) here ∙ marked_t ∙ sym (and-true (any is_empty asked.paths)), tt)
    where
      here : n ≡ t_of asked
      here = omega arith

      and-true : (b : Bool) → (b && true) ≡ b
      and-true true = refl
      and-true false = refl
  marks_down n (s ∷ r ∷ p) h = (unmarked_above n (omega arith) ∙ sym (and-false (any is_empty asked.paths)), marks_down (suc n) (r ∷ p) (omega arith))
    where
      and-false : (b : Bool) → (b && false) ≡ false
      and-false true = refl
      and-false false = refl

  -- "if S holds the empty path, t and everything below it"
  all_marks : any is_empty asked.paths ≡ true → (n : ℕ) (p : List ℕ) → t_of asked < n → MarksOf true true n p
  unfolding MarksOf marked
  all_marks e n [] h = tt
  all_marks e n (s ∷ p) h =
      (ap (λ (b : Bool). cond b (leb (t_of asked) n) (any (eqb n) (ends (t_of asked) (suc (t_of asked)) asked.paths))) e ∙ le-leb (t_of asked) n (omega arith), all_marks e (suc n) p (omega arith))

  -- "Marked are the ends of the branches"
  end_marks : (n stop : ℕ) (p : List ℕ) → stop ≡ n + length p → ((x : ℕ) → n ≤ x → x < stop → marked asked x ≡ eqb x (stop - 1)) → MarksOf false true n p
  unfolding MarksOf is_empty
  end_marks n stop [] e h = tt
  end_marks n stop (s ∷ []) e h = (h n (omega arith) (omega arith) ∙ eq-eqb n (stop - 1) (omega arith), tt)
  end_marks n stop (s ∷ r ∷ p) e h =
      (h n (omega arith) (omega arith) ∙ ne_eqb n (stop - 1) (λ q. omega arith), end_marks (suc n) stop (r ∷ p) (omega arith) (λ x a b. h x (omega arith) b))

  -- the marks of all branches, one after another
  unfoldable pub BranchMarks : Bool → ℕ → List (List ℕ) → Type 0
  BranchMarks whole n [] = Unit {0}
  BranchMarks whole n (p ∷ S) = MarksOf whole true n p × BranchMarks whole (n + length p) S

  branches_all : any is_empty asked.paths ≡ true → (n : ℕ) (S : List (List ℕ)) → t_of asked < n → BranchMarks true n S
  unfolding BranchMarks
  branches_all e n [] h = tt
  branches_all e n (p ∷ S) h = (all_marks e n p h, branches_all e (n + length p) S (omega arith))

  branches_ends : (n : ℕ) (S : List (List ℕ)) → longs S → ((x : ℕ) → n ≤ x → marked asked x ≡ any (eqb x) (ends (t_of asked) n S)) → BranchMarks false n S
  unfolding BranchMarks longs ends any is_empty
  branches_ends n [] l h = tt
  branches_ends n ([] ∷ S) l h = absurd (omega (arith, l.0))
  branches_ends n ((s ∷ p) ∷ S) l h =
      (end_marks n stop (s ∷ p) refl own, branches_ends stop S l.1 later)
    where
      stop : ℕ
      stop = n + suc (length p)

      own : (x : ℕ) → n ≤ x → x < n + suc (length p) → marked asked x ≡ eqb x (n + suc (length p) - 1)
      own x a b =
          h x a ∙ ap (λ (c : Bool). eqb x (n + suc (length p) - 1) || c) (no_end (t_of asked) (n + suc (length p)) x S l.1 b)
          ∙ or-false (eqb x (n + suc (length p) - 1))
        where
          or-false : (c : Bool) → (c || false) ≡ c
          or-false true = refl
          or-false false = refl

      later : (x : ℕ) → n + suc (length p) ≤ x → marked asked x ≡ any (eqb x) (ends (t_of asked) (n + suc (length p)) S)
      later x a =
          h x (omega arith)
          ∙ ap (λ (c : Bool). c || any (eqb x) (ends (t_of asked) (n + suc (length p)) S)) (ne_eqb x (n + suc (length p) - 1) (λ e. omega arith))

  pub branch_marks : BranchMarks (any is_empty asked.paths) (suc (t_of asked)) asked.paths
  unfolding marked
  branch_marks = go (any is_empty asked.paths) refl
    where
      go : (b : Bool) → any is_empty asked.paths ≡ b → BranchMarks b (suc (t_of asked)) asked.paths
      go true e = branches_all e (suc (t_of asked)) asked.paths (omega arith)
      go false e =
          branches_ends (suc (t_of asked)) asked.paths (longs_of asked.paths e)
          (λ x h. ap (λ (b : Bool). cond b (leb (t_of asked) x) (any (eqb x) (ends (t_of asked) (suc (t_of asked)) asked.paths))) e)
