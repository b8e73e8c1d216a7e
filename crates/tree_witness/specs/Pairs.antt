-- The first pairs of one to four key paths, one behind the other, are those of the key.
use Rattle.std.specs.Prelude.{ℕ, ◌*◌, ◌<◌, ◌≤◌, ◌-◌, ◌≡◌, refl, List, [], ◌∷◌, length, get_or, take, drop, replicate, Option, None, Some, unwrap_or, MatchOption}
use Rattle.std.proofs.Common.{subst, sym, ap₂, arith}
use Rattle.meaning.specs.Paths.{Class}
use Rattle.meaning.specs.Trees.{Table, IsTree}
use Rattle.meaning.specs.Keys.{Key, FirstWitness}
use Rattle.op_answers.specs.declared.Witness.{Witness}
use Rattle.tree_witness.specs.declared.Pair.{Pair}
use Rattle.op_answers.specs.Cases.{numbers_of, Padded}
use Rattle.theory_trees.specs.Reach.{reached_inside}
use Rattle.theory_trees.specs.Witness.{FirstPair, FirstPairs, no_path, one_path, FirstTargets}

pub targets_inside : {κ : ℕ → Class} {t : Table} {key : Key} {q a b : ℕ} → IsTree κ t → FirstTargets κ t key q a b → b < t.size
targets_inside tree f = reached_inside f.agreeing.second (reached_inside f.agreeing.context tree.some)

-- x and y are the first pair of key path i, where there is one; else 0
pub record PairAt (κ : ℕ → Class) (t : Table) (a b : ℕ) (paths : List (List ℕ)) (i x y : ℕ) : Type 0 where
  pub is : i < length paths → FirstPair κ t a b (get_or paths i []) x y
  pub none : length paths ≤ i → (x ≡ 0) × (y ≡ 0)

pub pair_none : {κ : ℕ → Class} {t : Table} {a b : ℕ} {paths : List (List ℕ)} {i : ℕ} → length paths ≤ i → PairAt κ t a b paths i 0 0
pair_none h = record { is = λ l. absurd (omega arith); none = λ l. (refl, refl) }

pub pair_some : {κ : ℕ → Class} {t : Table} {a b : ℕ} {paths : List (List ℕ)} {i x y : ℕ} → i < length paths → FirstPair κ t a b (get_or paths i []) x y
    → PairAt κ t a b paths i x y
pair_some h f = record { is = λ l. f; none = λ l. absurd (omega arith) }

-- what stands in the witness for it
pub pair_shown : {κ : ℕ → Class} {t : Table} {a b : ℕ} {paths : List (List ℕ)} {i : ℕ} (found : Option Pair) (p : Pair)
    → p ≡ unwrap_or found (record { x = 0; y = 0 })
    → MatchOption found (length paths ≤ i) (λ q. (i < length paths) × FirstPair κ t a b (get_or paths i []) q.x q.y)
    → PairAt κ t a b paths i p.x p.y
pair_shown {κ} {t} {a} {b} {paths} {i} None p e h = subst (λ (q : Pair). PairAt κ t a b paths i q.x q.y) (sym e) (pair_none h)
pair_shown {κ} {t} {a} {b} {paths} {i} (Some q) p e h = subst (λ (r : Pair). PairAt κ t a b paths i r.x r.y) (sym e) (pair_some h.0 h.1)

-- a witness with nothing behind its numbers, the first against the key
pub record FirstShown (κ : ℕ → Class) (t : Table) (key : Key) (w : Witness) : Type 0 where
  pub first : FirstWitness κ t key (numbers_of w)
  pub padded : Padded w

module _ {κ : ℕ → Class} {t : Table} {a b : ℕ} where
  pub pairs_four : (paths : List (List ℕ)) (n x0 y0 x1 y1 x2 y2 x3 y3 : ℕ) → n ≡ length paths → length paths ≤ 4
      → PairAt κ t a b paths 0 x0 y0 → PairAt κ t a b paths 1 x1 y1 → PairAt κ t a b paths 2 x2 y2 → PairAt κ t a b paths 3 x3 y3
      → FirstPairs κ t a b paths (take (2 * n) (x0 ∷ y0 ∷ x1 ∷ y1 ∷ x2 ∷ y2 ∷ x3 ∷ y3 ∷ []))
  pairs_four paths n x0 y0 x1 y1 x2 y2 x3 y3 e few p q r s =
      subst (λ (m : ℕ). FirstPairs κ t a b paths (take (2 * m) (x0 ∷ y0 ∷ x1 ∷ y1 ∷ x2 ∷ y2 ∷ x3 ∷ y3 ∷ []))) (sym e)
      (go paths few p q r s)
    where
      go : (l : List (List ℕ)) → length l ≤ 4 → PairAt κ t a b l 0 x0 y0 → PairAt κ t a b l 1 x1 y1 → PairAt κ t a b l 2 x2 y2
          → PairAt κ t a b l 3 x3 y3 → FirstPairs κ t a b l (take (2 * length l) (x0 ∷ y0 ∷ x1 ∷ y1 ∷ x2 ∷ y2 ∷ x3 ∷ y3 ∷ []))
      go [] h p q r s = no_path
      go (P ∷ []) h p q r s = one_path x0 y0 (p.is (omega arith)) no_path
      go (P ∷ Q ∷ []) h p q r s = one_path x0 y0 (p.is (omega arith)) (one_path x1 y1 (q.is (omega arith)) no_path)
      go (P ∷ Q ∷ R ∷ []) h p q r s =
          one_path x0 y0 (p.is (omega arith)) (one_path x1 y1 (q.is (omega arith)) (one_path x2 y2 (r.is (omega arith)) no_path))
      go (P ∷ Q ∷ R ∷ S ∷ []) h p q r s =
          one_path x0 y0 (p.is (omega arith))
          (one_path x1 y1 (q.is (omega arith)) (one_path x2 y2 (r.is (omega arith)) (one_path x3 y3 (s.is (omega arith)) no_path)))
      go (P ∷ Q ∷ R ∷ S ∷ U ∷ l) h p q r s = absurd (omega arith)

  pub padded_four : (paths : List (List ℕ)) (n x0 y0 x1 y1 x2 y2 x3 y3 : ℕ) → n ≡ length paths → length paths ≤ 4
      → PairAt κ t a b paths 0 x0 y0 → PairAt κ t a b paths 1 x1 y1 → PairAt κ t a b paths 2 x2 y2 → PairAt κ t a b paths 3 x3 y3
      → drop (2 * n) (x0 ∷ y0 ∷ x1 ∷ y1 ∷ x2 ∷ y2 ∷ x3 ∷ y3 ∷ []) ≡ replicate (8 - 2 * n) 0
  padded_four paths n x0 y0 x1 y1 x2 y2 x3 y3 e few p q r s =
      subst (λ (m : ℕ). drop (2 * m) (x0 ∷ y0 ∷ x1 ∷ y1 ∷ x2 ∷ y2 ∷ x3 ∷ y3 ∷ []) ≡ replicate (8 - 2 * m) 0) (sym e) (go paths few p q r s)
    where
      pair : {x y : ℕ} {l m : List ℕ} → (x ≡ 0) × (y ≡ 0) → l ≡ m → x ∷ y ∷ l ≡ 0 ∷ 0 ∷ m
      pair z f = ap₂ ◌∷◌ z.0 (ap₂ ◌∷◌ z.1 f)

      go : (l : List (List ℕ)) → length l ≤ 4 → PairAt κ t a b l 0 x0 y0 → PairAt κ t a b l 1 x1 y1 → PairAt κ t a b l 2 x2 y2
          → PairAt κ t a b l 3 x3 y3 → drop (2 * length l) (x0 ∷ y0 ∷ x1 ∷ y1 ∷ x2 ∷ y2 ∷ x3 ∷ y3 ∷ []) ≡ replicate (8 - 2 * length l) 0
      go [] h p q r s = pair (p.none (omega arith)) (pair (q.none (omega arith)) (pair (r.none (omega arith)) (pair (s.none (omega arith)) refl)))
      go (P ∷ []) h p q r s = pair (q.none (omega arith)) (pair (r.none (omega arith)) (pair (s.none (omega arith)) refl))
      go (P ∷ Q ∷ []) h p q r s = pair (r.none (omega arith)) (pair (s.none (omega arith)) refl)
      go (P ∷ Q ∷ R ∷ []) h p q r s = pair (s.none (omega arith)) refl
      go (P ∷ Q ∷ R ∷ S ∷ []) h p q r s = refl
      go (P ∷ Q ∷ R ∷ S ∷ U ∷ l) h p q r s = absurd (omega arith)
