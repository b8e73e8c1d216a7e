-- What acceptance by refusals 3 to 6 gives, in usable form: labels between 2 and 200, and keys whose parts are normal, simple, within
-- their limits and valid together.
use Rattle.std.specs.Prelude.{ℕ, suc, ◌+◌, ◌≤◌, ◌<◌, ◌≡◌, ◌⊎◌, Bool, true, false, cond, ◌&&◌, ◌||◌, leb, length}
use native.Mathlib.Omega.{arith}
use Rattle.std.proofs.Math.Path.{refl, subst}
use Rattle.std.proofs.Common.{sym, ap, ap₂, ◌∙◌, inl, inr}
use Rattle.std.proofs.Math.Bool.{not}
use mathlib.Core.List.Memᴰ
use mathlib.Core.List.{List, [], ◌∷◌, ◌++◌, append_assoc, Memᴰ}
use Rattle.std.proofs.Math.Dec.{T, eqb, eqb→eq, leb→le}
use Rattle.meaning.specs.Limits
use Rattle.meaning.specs.Limits.{KeyLimits, text_label, filler_element, filler_attribute, root_label}
use Rattle.meaning.specs.Lists.{every, any, ascending}
use Rattle.meaning.specs.Paths.{Class, Label, element, attribute, text, is_element, declared, declared_class, class_of, is_label, normal, simple, join, valid, member, Included, Endless}
use Rattle.meaning.specs.Keys.{Key}
use Rattle.meaning.specs.Refusals
use Rattle.meaning.specs.Refusals.{good_label, is_symbol, good_path, good_symbols, good_set, key_tests, first_of}
use Rattle.theory_lists.specs.Bools.{and_left, and_right, or_cases, or_left, or_right, every_each, every_map, any_some, false_of, neqb_of}
use Rattle.theory_paths.specs.Words.{member→word, word→member}
use Rattle.theory_paths.specs.Valid.{valid_left, valid_right, valid_norm}
use Rattle.theory_paths.specs.Normal.{join_three}
use Rattle.theory_paths.specs.Inclusion.{in_path, avoids, no_filler, included_of_word, word_of_included}
use Rattle.theory_paths.specs.Spelling.{one_spelling_words}

-- "Labels 2 to 200 are declared": each declared number is between them
pub record GoodLabels (labels : List Label) : Type 0 where
  pub each : (l : Label) → Memᴰ l labels → (2 ≤ l.number) × (l.number ≤ 200)

pub good_labels_none : GoodLabels []
good_labels_none = record { each = λ l m. absurd (Memᴰ.not-nil m) }

six : (a b c d e f : Bool) → T (a && b && c && d && e && f) → T a × T b
six true true c d e f t = (tt, tt)
six true false c d e f t = absurd t
six false b c d e f t = absurd t

-- a label record that refusal 3 lets pass is one more
pub good_labels_more : (labels : List Label) (l : Label) → GoodLabels labels → T (good_label labels l) → GoodLabels (labels ++ (l ∷ []))
unfolding good_label
good_labels_more labels l g t = record { each = λ k m. go k (Memᴰ.append_cases labels m) }
  where
    numbers : (2 ≤ l.number) × (l.number ≤ 200)
    numbers = (leb→le 2 l.number (six (leb 2 l.number) (leb l.number 200) _ _ _ _ t).0, leb→le l.number 200 (six (leb 2 l.number) (leb l.number 200) _ _ _ _ t).1)

    go : (k : Label) → Memᴰ k labels ⊎ Memᴰ k (l ∷ []) → (2 ≤ k.number) × (k.number ≤ 200)
    go k (inl m) = g.each k m
    go k (inr m) = subst (λ (j : Label). (2 ≤ j.number) × (j.number ≤ 200)) (sym (Memᴰ.eq_of_singleton m)) numbers

-- a label that is not declared is an element
pub undeclared_class : (labels : List Label) (n : ℕ) → (T (declared labels n) → ⊥) → declared_class labels n ≡ element
unfolding declared declared_class any
undeclared_class [] n h = refl
undeclared_class (l ∷ labels) n h =
    ap (λ (b : Bool). cond b (cond (eqb l.class Limits.attribute_class) attribute element) (declared_class labels n))
    (false_of (eqb l.number n) (λ t. h (or_left (eqb l.number n) (declared labels n) t)))
    ∙ undeclared_class labels n (λ t. h (or_right (eqb l.number n) (declared labels n) t))

-- a symbol that refusal 4 lets pass is 0 or a label
pub symbols_known : (labels : List Label) (P : List ℕ) → T (every (is_symbol labels) P) → T (every (in_path labels) P)
unfolding is_symbol in_path is_label
symbols_known labels P t = every_map (is_symbol labels) (in_path labels) P (λ s i. known (eqb s 0) (eqb s text_label) (declared labels s) (eqb s filler_element) (eqb s filler_attribute) i) t
  where
    known : (a b c d e : Bool) → T (a || b || c) → T (a || (b || c || d || e))
    known true b c d e i = tt
    known false true c d e i = tt
    known false false true d e i = tt
    known false false false d e i = absurd i

module _ (labels : List Label) (g : GoodLabels labels) where
  pub declared_between : (n : ℕ) → T (declared labels n) → (2 ≤ n) × (n ≤ 200)
  unfolding declared
  declared_between n t =
      let r = any_some (λ (l : Label). eqb l.number n) labels t in
      subst (λ (k : ℕ). (2 ≤ k) × (k ≤ 200)) (eqb→eq r.0.number n r.2) (g.each r.0 r.1)

  pub undeclared_low : (n : ℕ) → n < 2 → T (declared labels n) → ⊥
  undeclared_low n h t = let b = declared_between n t in omega arith

  pub undeclared_high : (n : ℕ) → 200 < n → T (declared labels n) → ⊥
  undeclared_high n h t = let b = declared_between n t in omega arith

  -- the classes of the fillers and of the root
  pub class_filler : class_of labels filler_element ≡ element
  unfolding class_of
  class_filler = undeclared_class labels filler_element (undeclared_high filler_element (omega arith))

  pub class_filler_attribute : class_of labels filler_attribute ≡ attribute
  unfolding class_of
  class_filler_attribute = refl

  pub class_root : class_of labels root_label ≡ element
  unfolding class_of
  class_root = undeclared_class labels root_label (undeclared_high root_label (omega arith))

  pub filler_element_lem : T (is_element (class_of labels filler_element))
  unfolding is_element
  filler_element_lem = subst (λ (c : Class). T (is_element c)) (sym class_filler) tt

  -- the symbols of an accepted path are 0 or labels, and none is a filler or the root
  pub symbol_not_high : (s : ℕ) → 200 < s → T (is_symbol labels s) → ⊥
  unfolding is_symbol
  symbol_not_high s h t = go (or_cases (eqb s 0 || eqb s text_label) (declared labels s) t)
    where
      low : T (eqb s 0) ⊎ T (eqb s text_label) → ⊥
      low (inl e) = let z = eqb→eq s 0 e in omega arith
      low (inr e) = let z = eqb→eq s 1 e in omega arith

      go : T (eqb s 0 || eqb s text_label) ⊎ T (declared labels s) → ⊥
      go (inl e) = low (or_cases (eqb s 0) (eqb s text_label) e)
      go (inr d) = undeclared_high s h d

  pub symbols_clear : (P : List ℕ) → T (every (is_symbol labels) P) → T (no_filler P)
  unfolding avoids
  symbols_clear P t =
      every_map (is_symbol labels) (λ (s : ℕ). not (eqb s filler_element)) P
      (λ s i. neqb_of s filler_element (λ e. symbol_not_high s (omega arith) i)) t

  pub included_good : (P Q : List ℕ) → T (every (is_symbol labels) P) → T (every (is_symbol labels) Q) → T (valid (class_of labels) P)
      → (Included labels P Q → T (member Q P)) × (T (member Q P) → Included labels P Q)
  included_good P Q s t is_valid = (
    λ h. word→member Q P (word_of_included labels P Q (symbols_clear Q t) (symbols_known labels P s) is_valid filler_element_lem h),
    λ h. included_of_word labels P Q (member→word Q P h),
  )

-- What refusals 4, 5 and 6 let pass
pub record GoodKey (labels : List Label) (limits : KeyLimits) (k : Key) : Type 0 where
  pub symbols : T (good_symbols labels limits k)
  pub set : T (good_set limits k)
  pub all_valid : T (Refusals.all_valid labels k)

number_ne : (n : ℕ) → suc n ≡ 0 → ⊥
number_ne n e = omega arith

three : (a b c : Bool) → first_of ((4, not a) ∷ (5, not b) ∷ (6, not c) ∷ []) ≡ 0 → T a × T b × T c
unfolding first_of
three true true true e = (tt, tt, tt)
three true true false e = absurd (number_ne 5 e)
three true false c e = absurd (number_ne 4 e)
three false b c e = absurd (number_ne 3 e)

three_back : (a b c : Bool) → T a → T b → T c → first_of ((4, not a) ∷ (5, not b) ∷ (6, not c) ∷ []) ≡ 0
unfolding first_of
three_back true true true s t u = refl
three_back true true false s t u = absurd u
three_back true false c s t u = absurd t
three_back false b c s t u = absurd s

pub good_of_tests : (labels : List Label) (limits : KeyLimits) (k : Key) → first_of (key_tests labels limits k) ≡ 0 → GoodKey labels limits k
unfolding key_tests
good_of_tests labels limits k e =
    let r = three (good_symbols labels limits k) (good_set limits k) (Refusals.all_valid labels k) e in
    record { symbols = r.0; set = r.1; all_valid = r.2 }

pub tests_of_good : (labels : List Label) (limits : KeyLimits) (k : Key) → GoodKey labels limits k → first_of (key_tests labels limits k) ≡ 0
unfolding key_tests
tests_of_good labels limits k g =
    three_back (good_symbols labels limits k) (good_set limits k) (Refusals.all_valid labels k) g.symbols g.set g.all_valid

all_three : (a b c : Bool) → T (a && b && c) → T a × T b × T c
all_three true true c t = (tt, tt, t)
all_three true false c t = absurd t
all_three false b c t = absurd t

first_of_lem : (S : List (List ℕ)) → 1 ≤ length S → (P : List ℕ) × Memᴰ P S
first_of_lem [] h = absurd (omega arith)
first_of_lem (P ∷ S) h = (P, Memᴰ.head refl)

-- An accepted path: its symbols, its form, its length
module _ (labels : List Label) (limit : ℕ) (P : List ℕ) (t : T (good_path labels limit P)) where
  pub path_symbols : T (every (is_symbol labels) P)
  unfolding good_path
  path_symbols = and_left (every (is_symbol labels) P) (normal P) (and_left (every (is_symbol labels) P && normal P) (leb (length P) limit) t)

  pub path_normal : T (normal P)
  unfolding good_path
  path_normal = and_right (every (is_symbol labels) P) (normal P) (and_left (every (is_symbol labels) P && normal P) (leb (length P) limit) t)

  pub path_length : length P ≤ limit
  unfolding good_path
  path_length = leb→le (length P) limit (and_right (every (is_symbol labels) P && normal P) (leb (length P) limit) t)

module _ (labels : List Label) (limits : KeyLimits) (k : Key) (g : GoodKey labels limits k) where
  parts : T (good_path labels limits.symbols k.context) × T (good_path labels limits.symbols k.target)
      × T (every (λ (p : List ℕ). good_path labels limits.path_symbols p && simple p) k.paths)
  unfolding good_symbols
  parts =
      all_three (good_path labels limits.symbols k.context) (good_path labels limits.symbols k.target)
      (every (λ (p : List ℕ). good_path labels limits.path_symbols p && simple p) k.paths) g.symbols

  sets : T (leb 1 (length k.paths)) × T (leb (length k.paths) limits.paths) × T (ascending k.paths)
  unfolding good_set
  sets = all_three (leb 1 (length k.paths)) (leb (length k.paths) limits.paths) (ascending k.paths) g.set

  pub context_symbols : T (every (is_symbol labels) k.context)
  context_symbols = path_symbols labels limits.symbols k.context parts.0

  pub context_normal : T (normal k.context)
  context_normal = path_normal labels limits.symbols k.context parts.0

  pub context_length : length k.context ≤ limits.symbols
  context_length = path_length labels limits.symbols k.context parts.0

  pub target_symbols : T (every (is_symbol labels) k.target)
  target_symbols = path_symbols labels limits.symbols k.target parts.1

  pub target_normal : T (normal k.target)
  target_normal = path_normal labels limits.symbols k.target parts.1

  pub target_length : length k.target ≤ limits.symbols
  target_length = path_length labels limits.symbols k.target parts.1

  key_path : (P : List ℕ) → Memᴰ P k.paths → T (good_path labels limits.path_symbols P && simple P)
  key_path P m = every_each (λ (p : List ℕ). good_path labels limits.path_symbols p && simple p) k.paths parts.2 P m

  key_path_good : (P : List ℕ) → Memᴰ P k.paths → T (good_path labels limits.path_symbols P)
  key_path_good P m = and_left (good_path labels limits.path_symbols P) (simple P) (key_path P m)

  pub key_path_simple : (P : List ℕ) → Memᴰ P k.paths → T (simple P)
  key_path_simple P m = and_right (good_path labels limits.path_symbols P) (simple P) (key_path P m)

  pub key_path_symbols : (P : List ℕ) → Memᴰ P k.paths → T (every (is_symbol labels) P)
  key_path_symbols P m = path_symbols labels limits.path_symbols P (key_path_good P m)

  pub key_path_length : (P : List ℕ) → Memᴰ P k.paths → length P ≤ limits.path_symbols
  key_path_length P m = path_length labels limits.path_symbols P (key_path_good P m)

  -- the set: not empty, within its limit, in order
  pub paths_some : 1 ≤ length k.paths
  paths_some = leb→le 1 (length k.paths) sets.0

  pub paths_within : length k.paths ≤ limits.paths
  paths_within = leb→le (length k.paths) limits.paths sets.1

  pub paths_ascending : T (ascending k.paths)
  paths_ascending = sets.2

  pub some_path : (P : List ℕ) × Memᴰ P k.paths
  some_path = first_of_lem k.paths paths_some

  -- C.T.P is valid, and so is each part of C ++ T ++ P
  pub valid_joined : (P : List ℕ) → Memᴰ P k.paths → T (valid (class_of labels) (join (join k.context k.target) P))
  unfolding Refusals.all_valid
  valid_joined P m =
      every_each (λ (p : List ℕ). valid (class_of labels) (join (join k.context k.target) p)) k.paths g.all_valid P m

  pub valid_whole : (P : List ℕ) → Memᴰ P k.paths → T (valid (class_of labels) (k.context ++ k.target ++ P))
  valid_whole P m =
      subst (λ (b : Bool). T b) (valid_norm (class_of labels) (k.context ++ k.target ++ P))
      (subst (λ (l : List ℕ). T (valid (class_of labels) l)) (join_three k.context k.target P) (valid_joined P m))

  pub valid_below : (P : List ℕ) → Memᴰ P k.paths → T (valid (class_of labels) (k.target ++ P))
  valid_below P m =
      valid_right (class_of labels) k.context (k.target ++ P)
      (subst (λ (l : List ℕ). T (valid (class_of labels) l)) (append_assoc k.context k.target P) (valid_whole P m))

  pub valid_key_path : (P : List ℕ) → Memᴰ P k.paths → T (valid (class_of labels) P)
  valid_key_path P m = valid_right (class_of labels) k.target P (valid_below P m)

  pub valid_chain : T (valid (class_of labels) (k.context ++ k.target))
  valid_chain = valid_left (class_of labels) (k.context ++ k.target) some_path.0 (valid_whole some_path.0 some_path.1)

  pub valid_context : T (valid (class_of labels) k.context)
  valid_context = valid_left (class_of labels) k.context k.target valid_chain

  pub valid_target : T (valid (class_of labels) k.target)
  valid_target = valid_right (class_of labels) k.context k.target valid_chain

  -- with labels that refusal 3 let pass, 201 is in none of its paths
  module _ (h : GoodLabels labels) where
    pub context_clear : T (no_filler k.context)
    context_clear = symbols_clear labels h k.context context_symbols

    pub target_clear : T (no_filler k.target)
    target_clear = symbols_clear labels h k.target target_symbols

    pub key_path_clear : (P : List ℕ) → Memᴰ P k.paths → T (no_filler P)
    key_path_clear P m = symbols_clear labels h P (key_path_symbols P m)

-- 02, request 13, "labels taken without end": every number beyond 203 is an element label of a profile's classes, so `one_spelling` speaks of them
pub labels_endless : (labels : List Label) → GoodLabels labels → Endless (class_of labels)
unfolding Endless class_of
labels_endless labels good n =
    let l = n + 204 in
    record {
      label = l;
      beyond = omega arith;
      is_its_class = ap₂ (λ (b c : Bool). cond b text (cond c attribute (declared_class labels l)))
          (false_of (eqb l text_label) (λ t. let z = eqb→eq l 1 t in omega arith))
          (false_of (eqb l filler_attribute) (λ t. let z = eqb→eq l 202 t in omega arith))
          ∙ undeclared_class labels l (undeclared_high labels good l (omega arith));
    }

-- 02, request 13, of our files: two accepted paths that are included in one another are the same symbols
pub file_spelling : (labels : List Label) → GoodLabels labels → (P Q : List ℕ) → T (every (is_symbol labels) P) → T (every (is_symbol labels) Q)
    → T (valid (class_of labels) P) → T (valid (class_of labels) Q) → T (normal P) → T (normal Q) → Included labels P Q → Included labels Q P → P ≡ Q
file_spelling labels good P Q sp sq vp vq np nq h k =
    one_spelling_words P Q np nq (member→word Q P ((included_good labels good P Q sp sq vp).0 h)) (member→word P Q ((included_good labels good Q P sq sp vq).0 k))
