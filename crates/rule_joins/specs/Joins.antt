-- Joins that are tested and not built: of two paths in normal form the join is their append, or their append without the second 0
-- where the first ends and the second begins with the any-path.
use Rattle.std.specs.Prelude.{ℕ, zero, suc, ◌≤◌, ◌-◌, ◌≡◌, refl, Bool, true, false, ◌&&◌, eqb, length, take, drop, get_or}
use Rattle.std.proofs.Common.{arith, sym, ◌∙◌, eqb→eq, take-suc}
use Rattle.std.proofs.Math.Path.{ap, ap₂, subst}
use Rattle.std.proofs.Math.Bool.{not}
use mathlib.Core.List.{List, [], ◌∷◌, ◌++◌, append_assoc, append-nil}
use Rattle.std.proofs.Math.Dec.{T}
use Rattle.std.proofs.Math.Seq.{take-length}
use borrow.Author.Rules.{part_to_end}
use Rattle.meaning.specs.Lists.{same}
use Rattle.meaning.specs.Paths.{normal, norm, join}
use Rattle.theory_lists.specs.Bools.{and_left, and_right, of_true}
use Rattle.theory_paths.specs.Normal.{norm_of_normal, join_nil_left, join_nil_right, norm_doubled}
use Rattle.rule_joins.specs.Forms.{is_doubled, normal_two}
use Rattle.rule_joins.specs.Both.{same_sym}

-- two paths in normal form that share their meeting symbol
pub normal_glue : (x : List ℕ) (s : ℕ) (y : List ℕ) → T (normal (x ++ (s ∷ []))) → T (normal (s ∷ y)) → T (normal (x ++ (s ∷ y)))
unfolding normal
normal_glue [] s y g h = h
normal_glue (suc a ∷ x) s y g h = normal_glue x s y g h
normal_glue (zero ∷ []) zero y g h = absurd g
normal_glue (zero ∷ []) (suc b) y g h = h
normal_glue (zero ∷ zero ∷ x) s y g h = absurd g
normal_glue (zero ∷ suc a ∷ x) s y g h = normal_glue x s y g h

-- a list that is not empty ends with its last
last_of : (x : List ℕ) → (length x ≡ 0 → ⊥) → x ≡ take (length x - 1) x ++ (get_or x (length x - 1) 0 ∷ [])
last_of x n =
    let e : suc (length x - 1) ≡ length x = omega arith in
    sym (take-length x) ∙ ap (λ (k : ℕ). take k x) (sym e) ∙ take-suc x (length x - 1) 0 (omega arith)

pub first_of_lem : (y : List ℕ) → (length y ≡ 0 → ⊥) → y ≡ get_or y 0 0 ∷ drop 1 y
first_of_lem [] n = absurd (n refl)
first_of_lem (s ∷ y) n = refl

doubled_first : (s t : ℕ) → is_doubled s t ≡ true → s ≡ 0
unfolding is_doubled
doubled_first s t e = eqb→eq s 0 (and_left (eqb s 0) (eqb t 0) (of_true (eqb s 0 && eqb t 0) e))

doubled_second : (s t : ℕ) → is_doubled s t ≡ true → t ≡ 0
unfolding is_doubled
doubled_second s t e = eqb→eq t 0 (and_right (eqb s 0) (eqb t 0) (of_true (eqb s 0 && eqb t 0) e))

norm_shared : (x y : List ℕ) → T (normal (x ++ (0 ∷ []))) → T (normal (0 ∷ y)) → norm ((x ++ (0 ∷ [])) ++ (0 ∷ y)) ≡ x ++ (0 ∷ y)
norm_shared x y g h = norm_doubled x y ∙ norm_of_normal (x ++ (0 ∷ y)) (normal_glue x 0 y g h)

-- what `overlap` answers: how much of y the join leaves out
pub record Overlap (x y : List ℕ) (r : ℕ) : Type 0 where
  pub within : r ≤ length y
  pub joined : join x y ≡ x ++ drop r y

pub record BothNormal (x y : List ℕ) : Type 0 where
  pub first : T (normal x)
  pub second : T (normal y)

module _ (x y : List ℕ) (b : BothNormal x y) where
  g : T (normal x)
  g = b.first

  h : T (normal y)
  h = b.second

  pub overlap_left : length x ≡ 0 → Overlap x y 0
  overlap_left e = record { within = omega arith; joined = go x e }
    where
      go : (l : List ℕ) → length l ≡ 0 → join l y ≡ l ++ y
      go [] e = join_nil_left y h
      go (s ∷ l) e = absurd (omega arith)

  pub overlap_right : length y ≡ 0 → Overlap x y 0
  overlap_right e = record { within = omega arith; joined = go y e }
    where
      go : (l : List ℕ) → length l ≡ 0 → join x l ≡ x ++ l
      go [] e = join_nil_right x g ∙ sym (append-nil x)
      go (s ∷ l) e = absurd (omega arith)

  module _ (n : length x ≡ 0 → ⊥) (m : length y ≡ 0 → ⊥) (r : Bool) (d : r ≡ is_doubled (get_or x (length x - 1) 0) (get_or y 0 0)) where
    abbrev x' : List ℕ
    x' = take (length x - 1) x

    abbrev s : ℕ
    s = get_or x (length x - 1) 0

    abbrev t : ℕ
    t = get_or y 0 0

    abbrev y' : List ℕ
    y' = drop 1 y

    pub overlap_none : r ≡ false → Overlap x y 0
    unfolding join
    overlap_none e = record { within = omega arith; joined = norm_of_normal (x ++ y) whole }
      where
        second : T (normal (s ∷ t ∷ y'))
        second =
            subst (λ (b : Bool). T b) (sym (normal_two s t y' ∙ ap (λ (b : Bool). not b && normal (t ∷ y')) (sym d ∙ e)))
            (subst (λ (l : List ℕ). T (normal l)) (first_of_lem y m) h)

        whole : T (normal (x ++ y))
        whole =
            subst (λ (l : List ℕ). T (normal l))
            (sym (ap₂ ◌++◌ (last_of x n) (first_of_lem y m) ∙ append_assoc x' (s ∷ []) (t ∷ y')))
            (normal_glue x' s (t ∷ y') (subst (λ (l : List ℕ). T (normal l)) (last_of x n) g) second)

    ends_any : r ≡ true → x ≡ x' ++ (0 ∷ [])
    ends_any e = last_of x n ∙ ap (λ (k : ℕ). x' ++ (k ∷ [])) (doubled_first s t (sym d ∙ e))

    begins_any : r ≡ true → y ≡ 0 ∷ y'
    begins_any e = first_of_lem y m ∙ ap (λ (k : ℕ). k ∷ y') (doubled_second s t (sym d ∙ e))

    shared : r ≡ true → join x y ≡ x' ++ (0 ∷ y')
    unfolding join
    shared e =
        ap₂ (λ (a b : List ℕ). norm (a ++ b)) (ends_any e) (begins_any e)
        ∙ norm_shared x' y' (subst (λ (l : List ℕ). T (normal l)) (ends_any e) g) (subst (λ (l : List ℕ). T (normal l)) (begins_any e) h)

    pub overlap_one : r ≡ true → Overlap x y 1
    overlap_one e =
        record {
          within = omega arith;
          joined = shared e ∙ sym (ap (λ (l : List ℕ). l ++ y') (ends_any e) ∙ append_assoc x' (0 ∷ []) y');
        }

pub joined_same : (x y t : List ℕ) (n : ℕ) (r : Bool) → Overlap x y n → r ≡ same t (x ++ take (length y - n) (drop n y)) → r ≡ same (join x y) t
joined_same x y t n r o e =
    e ∙ ap (same t) (ap (λ (l : List ℕ). x ++ l) (part_to_end y n) ∙ sym o.joined) ∙ same_sym t (join x y)
