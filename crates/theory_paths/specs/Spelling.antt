-- 02, request 13: one spelling for a path. Two paths in normal form that are words of one another are the same symbols; so are two valid paths
-- in normal form that have the same valid words, where labels are taken without end.
use Rattle.std.specs.Prelude.{ℕ, zero, suc, ◌+◌, ◌≤◌, ◌<◌, ◌≡◌, refl, Bool}
use Rattle.std.proofs.Common.{sym, ap, ap₂, ◌∙◌, arith}
use Rattle.std.proofs.Math.Path.{subst}
use mathlib.Core.List.{List, [], ◌∷◌, ◌++◌, nil≢cons, cons≢nil, head-eq_of_cons-eq, tail-eq_of_cons-eq}
use Rattle.std.proofs.Math.Dec.{T}
use Rattle.meaning.specs.Lists.{every}
use Rattle.meaning.specs.Paths.{Class, is_element, member, normal, norm, simple, valid, SameWords, Endless}
use Rattle.theory_lists.specs.Bools.{bool_eq, every_cons, neqb_of}
use Rattle.theory_paths.specs.Words.{Word, member→word, word→member}
use Rattle.theory_paths.specs.Normal.{normal_tail, word_norm→, word_norm←}
use Rattle.theory_paths.specs.Inclusion.{fill_by, avoids, fill_word, unfill_word, fill_valid}

-- how many labels a path has
unfoldable pub label_count : List ℕ → ℕ
label_count [] = 0
label_count (zero ∷ P) = label_count P
label_count (suc a ∷ P) = suc (label_count P)

count_append : (P Q : List ℕ) → label_count (P ++ Q) ≡ label_count P + label_count Q
unfolding label_count
count_append [] Q = omega arith
count_append (zero ∷ P) Q = count_append P Q
count_append (suc a ∷ P) Q = let e = count_append P Q in omega arith

-- each label of Q takes a label of P of its own
word_count : (Q P : List ℕ) → Word Q P → label_count Q ≤ label_count P
unfolding Word label_count
word_count [] P h = omega arith
word_count (zero ∷ Q) P h =
    let r = word_count Q h.1 h.3 in
    let e : label_count P ≡ label_count h.0 + label_count h.1 = ap label_count h.2 ∙ count_append h.0 h.1 in
    omega arith
word_count (suc a ∷ Q) P h =
    let r = word_count Q h.0 h.2 in
    let e : label_count P ≡ suc (label_count h.0) = ap label_count h.1 in
    omega arith

zero_is_no_label : (a : ℕ) → ◌≡◌ {A = ℕ} 0 (suc a) → ⊥
zero_is_no_label a e = omega arith

-- behind an any-path stands nothing or a label, so what another any-path takes of it beyond its 0 has a label
taken_none : (P u v : List ℕ) → T (normal (zero ∷ P)) → P ≡ u ++ v → label_count u ≡ 0 → u ≡ []
unfolding normal label_count
taken_none P [] v n e c = refl
taken_none [] (x ∷ u) v n e c = absurd (nil≢cons e)
taken_none (zero ∷ P) (x ∷ u) v n e c = absurd n
taken_none (suc a ∷ P) (zero ∷ u) v n e c = absurd (zero_is_no_label a (sym (head-eq_of_cons-eq e)))
taken_none (suc a ∷ P) (suc b ∷ u) v n e c = absurd (omega arith)

-- what the any-path in front of Q takes of 0 and P begins with that 0
pub record Behind (Q P : List ℕ) : Type 0 where
  pub taken : List ℕ
  pub left : List ℕ
  pub parts : P ≡ taken ++ left
  pub word : Word Q left

behind : (P Q : List ℕ) → T (normal (zero ∷ Q)) → Word (zero ∷ Q) (zero ∷ P) → Behind Q P
unfolding Word
behind P Q n h = go h.0 h.1 h.2 h.3
  where
    go : (u v : List ℕ) → zero ∷ P ≡ u ++ v → Word Q v → Behind Q P
    go [] v e w = absurd (none Q n (subst (Word Q) (sym e) w))
      where
        none : (Q : List ℕ) → T (normal (zero ∷ Q)) → Word Q (zero ∷ P) → ⊥
        none [] n w = unfold Word in cons≢nil w
        none (zero ∷ Q) n w = unfold normal in n
        none (suc a ∷ Q) n w = unfold Word in zero_is_no_label a (head-eq_of_cons-eq w.1)
    go (x ∷ u) v e w = record { taken = u; left = v; parts = tail-eq_of_cons-eq e; word = w }

-- Two paths in normal form that are words of one another are the same symbols
pub one_spelling_words : (P Q : List ℕ) → T (normal P) → T (normal Q) → Word Q P → Word P Q → P ≡ Q
unfolding Word
one_spelling_words [] Q n m h k = sym k
one_spelling_words (x ∷ P) [] n m h k = h
one_spelling_words (zero ∷ P) (suc b ∷ Q) n m h k = absurd (zero_is_no_label b (head-eq_of_cons-eq h.1))
one_spelling_words (suc a ∷ P) (zero ∷ Q) n m h k = absurd (zero_is_no_label a (head-eq_of_cons-eq k.1))
one_spelling_words (suc a ∷ P) (suc b ∷ Q) n m h k =
    let rest : P ≡ Q =
    one_spelling_words P Q (normal_tail (suc a) P n) (normal_tail (suc b) Q m)
    (subst (Word Q) (sym (tail-eq_of_cons-eq h.1)) h.2)
    (subst (Word P) (sym (tail-eq_of_cons-eq k.1)) k.2) in
    ap₂ (λ (s : ℕ) (l : List ℕ). s ∷ l) (head-eq_of_cons-eq h.1) rest
one_spelling_words (zero ∷ P) (zero ∷ Q) n m h k =
    let b = behind P Q m h in
    let c = behind Q P n k in
    let one = word_count Q b.left b.word in
    let two = word_count P c.left c.word in
    let p : label_count P ≡ label_count b.taken + label_count b.left = ap label_count b.parts ∙ count_append b.taken b.left in
    let q : label_count Q ≡ label_count c.taken + label_count c.left = ap label_count c.parts ∙ count_append c.taken c.left in
    let none-b : b.taken ≡ [] = taken_none P b.taken b.left n b.parts (omega arith) in
    let none-c : c.taken ≡ [] = taken_none Q c.taken c.left m c.parts (omega arith) in
    ap (λ (l : List ℕ). zero ∷ l)
    (one_spelling_words P Q (normal_tail zero P n) (normal_tail zero Q m)
    (subst (Word Q) (sym (b.parts ∙ ap (λ (l : List ℕ). l ++ b.left) none-b)) b.word)
    (subst (Word P) (sym (c.parts ∙ ap (λ (l : List ℕ). l ++ c.left) none-c)) c.word))

-- ---- a fresh label in each 0's place
fill_simple : (f : ℕ) → 0 < f → (P : List ℕ) → T (simple (fill_by f P))
unfolding fill_by simple every
fill_simple f h [] = tt
fill_simple f h (zero ∷ P) = every_cons _ f (fill_by f P) (neqb_of f 0 (λ (e : f ≡ 0). omega arith)) (fill_simple f h P)
fill_simple f h (suc a ∷ P) = every_cons _ (suc a) (fill_by f P) (neqb_of (suc a) 0 (λ (e : suc a ≡ 0). omega arith)) (fill_simple f h P)

-- a number above every symbol of a path is in it nowhere
unfoldable pub sum : List ℕ → ℕ
sum [] = 0
sum (s ∷ P) = s + sum P

avoids_above : (f : ℕ) (P : List ℕ) → sum P < f → T (avoids f P)
unfolding avoids sum every
avoids_above f [] h = tt
avoids_above f (s ∷ P) h = every_cons _ s P (neqb_of s f (λ (e : s ≡ f). omega arith)) (avoids_above f P (omega arith))

-- "two valid paths in normal form have the same words exactly when they are the same symbols": of any length, labels without end
module _ (κ : ℕ → Class) (endless : Endless κ) (P Q : List ℕ) (valid_p : T (valid κ P)) where
  pub same_words_word : SameWords κ P Q → Word Q P
  unfolding SameWords Endless is_element
  same_words_word same =
      let l = endless (sum P + sum Q) in
      let e : T (is_element (κ l.label)) = subst (λ (c : Class). T (is_element c)) (sym l.is_its_class) tt in
      let w = fill_by l.label P in
      let a = l.beyond in
      unfill_word l.label Q P (avoids_above l.label Q (omega arith))
      (member→word Q w
      (subst (λ (b : Bool). T b) (same w (fill_simple l.label (omega arith) P) (fill_valid l.label κ e P valid_p))
      (word→member P w (fill_word l.label P))))

pub one_spelling : (κ : ℕ → Class) → Endless κ → (P Q : List ℕ) → T (valid κ P) → T (valid κ Q) → T (normal P) → T (normal Q)
    → (SameWords κ P Q → P ≡ Q) × (P ≡ Q → SameWords κ P Q)
unfolding SameWords
one_spelling κ endless P Q vp vq np nq = (
  λ same.
      one_spelling_words P Q np nq (same_words_word κ endless P Q vp same)
      (same_words_word κ endless Q P vq (λ w s v. sym (same w s v))),
  λ e w s v. ap (λ (R : List ℕ). member R w) e,
)

-- "putting a path into normal form never changes its words": of no run at all
pub norm_same_words : (P w : List ℕ) → member (norm P) w ≡ member P w
norm_same_words P w =
    bool_eq _ _ (λ t. word→member P w (word_norm→ P w (member→word (norm P) w t))) (λ t. word→member (norm P) w (word_norm← P w (member→word P w t)))
