-- The three answers of the search for a word (a word; none; none, and no end of the run is one either): what each says, and a law for each
-- return. The hypotheses of a law are the tests that lead to its return; a part that was handed on is the list without its first.
use Prim.Native.Nat.{ℕ, zero, suc, ◌-◌}
use Rattle.std.proofs.Common.{arith, ◌∙◌, eq-eqb, ne_eqb}
use Rattle.std.specs.Prelude.{◌≡◌, eqb, take}
use Rattle.std.proofs.Math.Path.{refl, sym, ap, ap₂, subst}
use mathlib.Core.Bool.{Bool, true, false, ◌&&◌, ◌||◌}
use mathlib.Core.List.{List, [], ◌∷◌}
use Rattle.std.proofs.Math.ListN.{length, drop, get_or}
use borrow.Author.Rules.{part_to_end}
use Rattle.meaning.specs.Lists.{is_empty}
use Rattle.theory_lists.specs.Bools.{true_of, of_true}
use Rattle.theory_paths.specs.Words.{of_end}
use Rattle.meaning.specs.Paths.{member, front, any_end}
use Rattle.path_words.specs.declared.Membership.{Membership}
use Rattle.path_words.specs.declared.Membership.TheVariants.{Word, NoWord, OutOfLabels}

-- `OutOfLabels`: no end of the run is a word
unfoldable pub Told : Membership → List ℕ → List ℕ → Type 0
Told Word path run = member path run ≡ true
Told NoWord path run = member path run ≡ false
Told OutOfLabels path run = any_end (member path) run ≡ false

left_false : (a b : Bool) → (a || b) ≡ false → a ≡ false
left_false true b e = e
left_false false b e = refl

right_false : (a b : Bool) → (a || b) ≡ false → b ≡ false
right_false true b e = absurd (mathlib.Core.Bool.true≢false e)
right_false false b e = e

or-false : (a b : Bool) → a ≡ false → b ≡ false → (a || b) ≡ false
or-false a b d e = ap₂ ◌||◌ d e

and-false : (a b : Bool) → b ≡ false → (a && b) ≡ false
and-false true b e = e
and-false false b e = refl

-- the whole run is one of its ends
end_self : (f : List ℕ → Bool) (w : List ℕ) → any_end f w ≡ false → f w ≡ false
unfolding any_end
end_self f [] e = e
end_self f (x ∷ w) e = left_false (f (x ∷ w)) (any_end f w) e

-- an any-path in front offers nothing new
any_ends : (f : List ℕ → Bool) (w : List ℕ) → any_end f w ≡ false → any_end (any_end f) w ≡ false
unfolding any_end
any_ends f [] e = e
any_ends f (x ∷ w) e = or-false (any_end f (x ∷ w)) (any_end (any_end f) w) e (any_ends f w (right_false (f (x ∷ w)) (any_end f w) e))

-- neither does a label
label_ends : (a : ℕ) (f : List ℕ → Bool) (w : List ℕ) → any_end f w ≡ false → any_end (front (suc a) f) w ≡ false
unfolding any_end front
label_ends a f [] e = refl
label_ends a f (x ∷ w) e =
    let rest = right_false (f (x ∷ w)) (any_end f w) e in
    or-false (eqb x (suc a) && f w) (any_end (front (suc a) f) w) (and-false (eqb x (suc a)) (f w) (end_self f w rest)) (label_ends a f w rest)

pub empty_word : (P w : List ℕ) → length P ≡ 0 → length w ≡ 0 → Told Word P w
unfolding Told member is_empty
empty_word [] [] s t = refl
empty_word [] (x ∷ w) s t = absurd (omega arith)
empty_word (a ∷ P) w s t = absurd (omega arith)

pub empty_none : (P w : List ℕ) → length P ≡ 0 → (length w ≡ 0 → ⊥) → Told NoWord P w
unfolding Told member is_empty
empty_none [] [] s t = absurd (t refl)
empty_none [] (x ∷ w) s t = refl
empty_none (a ∷ P) w s t = absurd (omega arith)

-- a path that is not empty is its first symbol and the rest
first_any : (F : List ℕ → Type 0) (P rest : List ℕ) → (length P ≡ 0 → ⊥) → get_or P 0 0 ≡ 0 → rest ≡ drop 1 P → F (zero ∷ rest) → F P
first_any F [] rest some any is h = absurd (some refl)
first_any F (zero ∷ P) rest some any is h = subst (λ (l : List ℕ). F (zero ∷ l)) is h
first_any F (suc a ∷ P) rest some any is h = absurd (omega arith)

first_label : (F : List ℕ → Type 0) (P rest : List ℕ) → (length P ≡ 0 → ⊥) → (get_or P 0 0 ≡ 0 → ⊥) → rest ≡ drop 1 P
    → ((a : ℕ) → get_or P 0 0 ≡ suc a → F (suc a ∷ rest)) → F P
first_label F [] rest some any is h = absurd (some refl)
first_label F (zero ∷ P) rest some any is h = absurd (any refl)
first_label F (suc a ∷ P) rest some any is h = subst (λ (l : List ℕ). F (suc a ∷ l)) is (h a refl)

-- what `&s[1..]` hands on
abbrev pub handed : List ℕ → List ℕ
handed l = take (length l - 1) (drop 1 l)

-- the path begins with the any-path: what the search of the rest told
module _ (P w : List ℕ) (some : length P ≡ 0 → ⊥) (any : get_or P 0 0 ≡ 0) (r : Membership) (told : Told r (handed P) w) where
  pub any_word : r ≡ Word → Told Word P w
  unfolding Told member front any_end
  any_word e = first_any (λ (l : List ℕ). Told Word l w) P (handed P) some any (part_to_end P 1) (begun w (subst (λ (f : Membership). Told f (handed P) w) e told))
    where
      begun : (v : List ℕ) → member (handed P) v ≡ true → any_end (member (handed P)) v ≡ true
      begun v t = true_of (any_end (member (handed P)) v) (of_end (member (handed P)) [] v (of_true (member (handed P) v) t))

  pub any_out : r ≡ OutOfLabels → Told OutOfLabels P w
  unfolding Told member front any_end
  any_out e =
      first_any (λ (l : List ℕ). Told OutOfLabels l w) P (handed P) some any (part_to_end P 1)
      (any_ends (member (handed P)) w (subst (λ (f : Membership). Told f (handed P) w) e told))

  pub any_spent : r ≡ NoWord → length w ≡ 0 → Told OutOfLabels P w
  unfolding Told member front any_end
  any_spent e n =
      first_any (λ (l : List ℕ). Told OutOfLabels l w) P (handed P) some any (part_to_end P 1) (ended w n (subst (λ (f : Membership). Told f (handed P) w) e told))
    where
      ended : (v : List ℕ) → length v ≡ 0 → member (handed P) v ≡ false → any_end (any_end (member (handed P))) v ≡ false
      ended [] n t = t
      ended (x ∷ v) n t = absurd (omega arith)

  -- it takes a label
  pub any_more : r ≡ NoWord → (length w ≡ 0 → ⊥) → (a : Membership) → Told a P (handed w) → Told a P w
  unfolding Told member front any_end
  any_more e n a h =
      first_any (λ (l : List ℕ). Told a l w) P (handed P) some any (part_to_end P 1)
      (taken w n (part_to_end w 1) (subst (λ (f : Membership). Told f (handed P) w) e told) a (first_of_lem P some any (part_to_end P 1) h))
    where
      first_of_lem : (Q : List ℕ) → (length Q ≡ 0 → ⊥) → get_or Q 0 0 ≡ 0 → handed P ≡ drop 1 Q → Told a Q (handed w) → Told a (zero ∷ handed P) (handed w)
      first_of_lem [] f g i k = absurd (f refl)
      first_of_lem (zero ∷ Q) f g i k = subst (λ (l : List ℕ). Told a (zero ∷ l) (handed w)) (sym i) k
      first_of_lem (suc b ∷ Q) f g i k = absurd (omega arith)

      taken : (v : List ℕ) → (length v ≡ 0 → ⊥) → handed w ≡ drop 1 v → member (handed P) v ≡ false → (b : Membership) → Told b (zero ∷ handed P) (handed w)
          → Told b (zero ∷ handed P) v
      taken [] f j t b k = absurd (f refl)
      taken (x ∷ v) f j t Word k = ap₂ ◌||◌ t (subst (λ (l : List ℕ). any_end (member (handed P)) l ≡ true) j k)
      taken (x ∷ v) f j t NoWord k = ap₂ ◌||◌ t (subst (λ (l : List ℕ). any_end (member (handed P)) l ≡ false) j k)
      taken (x ∷ v) f j t OutOfLabels k =
          let later : any_end (any_end (member (handed P))) v ≡ false = subst (λ (l : List ℕ). any_end (any_end (member (handed P))) l ≡ false) j k in
          or-false (any_end (member (handed P)) (x ∷ v)) (any_end (any_end (member (handed P))) v) (ap₂ ◌||◌ t (end_self (any_end (member (handed P))) v later)) later

-- the path begins with a label
module _ (P w : List ℕ) (some : length P ≡ 0 → ⊥) (label : get_or P 0 0 ≡ 0 → ⊥) where
  pub label_out : length w ≡ 0 → Told OutOfLabels P w
  unfolding Told member front any_end
  label_out n = first_label (λ (l : List ℕ). Told OutOfLabels l w) P (drop 1 P) some label refl (λ a e. ended a w n)
    where
      ended : (a : ℕ) (v : List ℕ) → length v ≡ 0 → any_end (front (suc a) (member (drop 1 P))) v ≡ false
      ended a [] n = refl
      ended a (x ∷ v) n = absurd (omega arith)

  pub label_none : (length w ≡ 0 → ⊥) → (get_or w 0 0 ≡ get_or P 0 0 → ⊥) → Told NoWord P w
  unfolding Told member front any_end
  label_none n ne = first_label (λ (l : List ℕ). Told NoWord l w) P (drop 1 P) some label refl (λ a e. other a w n (λ d. ne (d ∙ sym e)))
    where
      other : (a : ℕ) (v : List ℕ) → (length v ≡ 0 → ⊥) → (get_or v 0 0 ≡ suc a → ⊥) → front (suc a) (member (drop 1 P)) v ≡ false
      other a [] f g = absurd (f refl)
      other a (x ∷ v) f g = ap (λ (b : Bool). b && member (drop 1 P) v) (ne_eqb x (suc a) g)

  pub label_more : (length w ≡ 0 → ⊥) → get_or w 0 0 ≡ get_or P 0 0 → (r : Membership)
      → Told r (handed P) (handed w) → Told r P w
  unfolding Told member front any_end
  label_more n e r h =
      first_label (λ (l : List ℕ). Told r l w) P (handed P) some label (part_to_end P 1) (λ a d. taken a w n (e ∙ d) (part_to_end w 1) r h)
    where
      taken : (a : ℕ) (v : List ℕ) → (length v ≡ 0 → ⊥) → get_or v 0 0 ≡ suc a → handed w ≡ drop 1 v → (b : Membership) → Told b (handed P) (handed w)
          → Told b (suc a ∷ handed P) v
      taken a [] f g j b k = absurd (f refl)
      taken a (x ∷ v) f g j Word k = ap₂ ◌&&◌ (eq-eqb x (suc a) g) (subst (λ (l : List ℕ). member (handed P) l ≡ true) j k)
      taken a (x ∷ v) f g j NoWord k = and-false (eqb x (suc a)) (member (handed P) v) (subst (λ (l : List ℕ). member (handed P) l ≡ false) j k)
      taken a (x ∷ v) f g j OutOfLabels k =
          let later : any_end (member (handed P)) v ≡ false = subst (λ (l : List ℕ). any_end (member (handed P)) l ≡ false) j k in
          or-false (eqb x (suc a) && member (handed P) v) (any_end (front (suc a) (member (handed P))) v)
          (and-false (eqb x (suc a)) (member (handed P) v) (end_self (member (handed P)) v later)) (label_ends a (member (handed P)) v later)

-- what the answer says of membership alone
pub told_word : (r : Membership) (P w : List ℕ) → Told r P w → r ≡ Word → true ≡ member P w
unfolding Told
told_word r P w t e = sym (subst (λ (f : Membership). Told f P w) e t)

pub told_not : (r : Membership) (P w : List ℕ) → Told r P w → (r ≡ Word → ⊥) → false ≡ member P w
unfolding Told
told_not Word P w t n = absurd (n refl)
told_not NoWord P w t n = sym t
told_not OutOfLabels P w t n = sym (end_self (member P) w t)
