-- A line cut at its marks, return by return: "one key a line: `(port, (frame, {@seq, stamp}))`".
use Rattle.std.specs.Prelude.{ℕ, suc, ◌+◌, ◌-◌, ◌≤◌, ◌<◌, ◌≡◌, refl, Bool, true, false, not, ◌&&◌, cond, eqb, nat_lt, List, [], ◌∷◌, ◌++◌, length, take, drop, ◌==◌, unwrap_or}
use Rattle.std.specs.Prelude as library
use Rattle.std.specs.List.{position, position_or_len}
use Rattle.std.specs.Bool.{then_some}
use Rattle.std.specs.Cmp.Lexicographic.{pointwise}
use Rattle.std.proofs.Common.{sym, ap, ap₂, ◌∙◌, arith, ltb-true, eqb-true}
use Rattle.std.proofs.lemmas.Bool.{eqb-false, ltb-false, false≢true}
use Rattle.std.proofs.lemmas.List.{take_all, drop_all}
use Rattle.std.proofs.Math.Option.{Option, none, some}
use Rattle.meaning.specs.Records.{and_then}
use Rattle.meaning.specs.Text.{Typed, TypedKey}
use Rattle.theory_text.specs.Reading.{up_to, from_the, read_path, read_set, after_the, ended, read_text}
use Rattle.read_text.specs.declared.cut.Cut.{Cut}

-- a key of its parts, where each of them is read
unfoldable pub together : Option (List Typed) → Option (List Typed) → Option (List (List Typed)) → Option TypedKey
together context target set =
    and_then context (λ c. and_then target (λ t. and_then set (λ s. some (record { context = c; target = t; paths = s }))))

-- the texts of a line that is cut there
pub record Parts (line context target set : List ℕ) : Type 0 where
  pub is : line ≡ 40 ∷ (context ++ (44 ∷ 32 ∷ 40 ∷ (target ++ (44 ∷ 32 ∷ 123 ∷ (set ++ (125 ∷ 41 ∷ 41 ∷ []))))))
  pub reads : read_text line ≡ together (read_path context) (read_path target) (read_set set)

abbrev pub CutOf : List ℕ → library.Option Cut → Type 0
CutOf line library.None = read_text line ≡ none
CutOf line (library.Some cut) = Parts line cut.context.now cut.target.now cut.set.now

-- ---- the next such byte
one-add : (n : ℕ) → 1 + n ≡ suc n
one-add n = omega arith

before_at : (x : ℕ) (l : List ℕ) → take (position_or_len (λ b. eqb b x) l) l ≡ up_to x l
unfolding up_to
before_at x [] = refl
before_at x (b ∷ l) = go (eqb b x) (before_at x l)
  where
    go : (c : Bool) → take (position_or_len (λ b. eqb b x) l) l ≡ up_to x l
        → take (cond (not c) (1 + position_or_len (λ b. eqb b x) l) 0) (b ∷ l) ≡ cond c [] (b ∷ up_to x l)
    go true e = refl
    go false e = rw one-add (ap (λ (t : List ℕ). b ∷ t) e)

behind_at : (x : ℕ) (l : List ℕ) → drop (position_or_len (λ b. eqb b x) l) l ≡ from_the x l
unfolding from_the
behind_at x [] = refl
behind_at x (b ∷ l) = go (eqb b x) (behind_at x l)
  where
    go : (c : Bool) → drop (position_or_len (λ b. eqb b x) l) l ≡ from_the x l
        → drop (cond (not c) (1 + position_or_len (λ b. eqb b x) l) 0) (b ∷ l) ≡ cond c (b ∷ l) (from_the x l)
    go true e = refl
    go false e = rw one-add e

module _ (x : ℕ) (l : List ℕ) {r : library.Option ℕ} (told : r ≡ position (λ b. eqb b x) l) {end : ℕ} (e : end ≡ unwrap_or r (length l)) where
  -- the end that is used: the place, or the length, where taking and dropping do the same
  end_is : (end ≤ length l) × (take end l ≡ up_to x l) × (drop end l ≡ from_the x l)
  end_is = at (nat_lt (position_or_len (λ b. eqb b x) l) (length l)) refl (e ∙ ap (λ (o : library.Option ℕ). unwrap_or o (length l)) told)
    where
      at : (b : Bool) → nat_lt (position_or_len (λ b. eqb b x) l) (length l) ≡ b
          → end ≡ unwrap_or (cond b (library.Some (position_or_len (λ b. eqb b x) l)) library.None) (length l)
          → (end ≤ length l) × (take end l ≡ up_to x l) × (drop end l ≡ from_the x l)
      at true q s = let h = ltb-true _ _ q in (omega arith, rw s (before_at x l), rw s (behind_at x l))
      at false q s =
          let h = ltb-false _ _ q in
          (omega arith, take_all _ l (omega arith) ∙ (sym (take_all _ l h) ∙ before_at x l), drop_all _ l (omega arith) ∙ (sym (drop_all _ l h) ∙ behind_at x l))

  pub end_within : end ≤ length l
  end_within = end_is.0

  pub end_before : take end l ≡ up_to x l
  end_before = end_is.1

  pub end_behind : drop end l ≡ from_the x l
  end_behind = end_is.2

cut_whole : (x : ℕ) (l : List ℕ) → l ≡ up_to x l ++ from_the x l
unfolding up_to from_the
cut_whole x [] = refl
cut_whole x (b ∷ l) = go (eqb b x) (cut_whole x l)
  where
    go : (c : Bool) → l ≡ up_to x l ++ from_the x l → b ∷ l ≡ cond c [] (b ∷ up_to x l) ++ cond c (b ∷ l) (from_the x l)
    go true e = refl
    go false e = ap (λ (t : List ℕ). b ∷ t) e

-- ---- a mark at the front
strip_none : (mark l : List ℕ) → pointwise ◌==◌ (take (length mark) l) mark ≡ false → after_the mark l ≡ none
unfolding after_the
strip_none [] l e = absurd (false≢true (sym e))
strip_none (x ∷ mark) [] e = refl
strip_none (x ∷ mark) (b ∷ l) e = go (b == x) e (strip_none mark l)
  where
    go : (c : Bool) → (c && pointwise ◌==◌ (take (length mark) l) mark) ≡ false → (pointwise ◌==◌ (take (length mark) l) mark ≡ false → after_the mark l ≡ none)
        → cond c (after_the mark l) none ≡ none
    go true e more = more e
    go false e more = refl

strip_some : (mark l : List ℕ) → pointwise ◌==◌ (take (length mark) l) mark ≡ true → after_the mark l ≡ some (drop (length mark) l)
unfolding after_the
strip_some [] l e = refl
strip_some (x ∷ mark) [] e = absurd (false≢true e)
strip_some (x ∷ mark) (b ∷ l) e = go (b == x) e (strip_some mark l)
  where
    go : (c : Bool) → (c && pointwise ◌==◌ (take (length mark) l) mark) ≡ true
        → (pointwise ◌==◌ (take (length mark) l) mark ≡ true → after_the mark l ≡ some (drop (length mark) l))
        → cond c (after_the mark l) none ≡ some (drop (length mark) l)
    go true e more = more e
    go false e more = absurd (false≢true e)

behind_mark : (mark l r : List ℕ) → after_the mark l ≡ some r → l ≡ mark ++ r
unfolding after_the
behind_mark [] l r e = cc
behind_mark (x ∷ mark) [] r e = cc
behind_mark (x ∷ mark) (b ∷ l) r e = go (eqb b x) refl e (behind_mark mark l r)
  where
    go : (c : Bool) → eqb b x ≡ c → cond c (after_the mark l) none ≡ some r → (after_the mark l ≡ some r → l ≡ mark ++ r) → b ∷ l ≡ x ∷ (mark ++ r)
    go true q e more = ap₂ (λ (y : ℕ) (t : List ℕ). y ∷ t) (eqb-true b x q) (more e)
    go false q e more = cc

-- what `strip_prefix` says
abbrev pub Missing : List ℕ → List ℕ → Type 0
Missing mark l = pointwise ◌==◌ (take (length mark) l) mark ≡ false

abbrev pub Stripped : List ℕ → List ℕ → List ℕ → Type 0
Stripped mark l r = (pointwise ◌==◌ (take (length mark) l) mark ≡ true) × (r ≡ drop (length mark) l) × (length r + length mark ≡ length l)

stripped : (mark l : List ℕ) {r : List ℕ} → Stripped mark l r → after_the mark l ≡ some r
stripped mark l s = strip_some mark l s.0 ∙ ap some (sym s.1)

-- ---- the reader's steps
then_none : {A B : Type 0} (o : Option A) (f : A → Option B) → ((a : A) → f a ≡ none) → and_then o f ≡ none
unfolding and_then
then_none none f h = refl
then_none (some a) f h = h a

then_same : {A B : Type 0} (o : Option A) (f g : A → Option B) → ((a : A) → f a ≡ g a) → and_then o f ≡ and_then o g
unfolding and_then
then_same none f g h = refl
then_same (some a) f g h = h a

behind : {A B : Type 0} {o : Option A} (f : A → Option B) {a : A} → o ≡ some a → and_then o f ≡ f a
unfolding and_then
behind f e = rw e

nothing : {A B : Type 0} {o : Option A} (f : A → Option B) → o ≡ none → and_then o f ≡ none
unfolding and_then
nothing f e = rw e

unfoldable from_set : List Typed → List Typed → List ℕ → Option TypedKey
from_set c t d =
    and_then (read_set (up_to 125 d))
    (λ s. and_then (after_the (125 ∷ 41 ∷ 41 ∷ []) (from_the 125 d)) (λ e. ended (record { context = c; target = t; paths = s }) e))

unfoldable from_target : List Typed → List ℕ → Option TypedKey
from_target c b = and_then (read_path (up_to 44 b)) (λ t. and_then (after_the (44 ∷ 32 ∷ 123 ∷ []) (from_the 44 b)) (λ d. from_set c t d))

unfoldable from_context : List ℕ → Option TypedKey
from_context a = and_then (read_path (up_to 44 a)) (λ c. and_then (after_the (44 ∷ 32 ∷ 40 ∷ []) (from_the 44 a)) (λ b. from_target c b))

steps : (line : List ℕ) → read_text line ≡ and_then (after_the (40 ∷ []) line) from_context
unfolding read_text from_context from_target from_set
steps line = refl

pub no_open : (line : List ℕ) → Missing (40 ∷ []) line → read_text line ≡ none
no_open line m = steps line ∙ nothing from_context (strip_none (40 ∷ []) line m)

module _ (line : List ℕ) {a : List ℕ} (opened : Stripped (40 ∷ []) line a) {context rest : List ℕ} (its_context : context ≡ up_to 44 a) (behind_context : rest ≡ from_the 44 a) where
  reads_context : read_text line ≡ from_context a
  reads_context = steps line ∙ behind from_context (stripped (40 ∷ []) line opened)

  pub no_second : Missing (44 ∷ 32 ∷ 40 ∷ []) rest → read_text line ≡ none
  unfolding from_context
  no_second m =
      reads_context
      ∙ then_none (read_path (up_to 44 a)) _ (λ c. nothing (from_target c) (rw (sym behind_context) (strip_none (44 ∷ 32 ∷ 40 ∷ []) rest m)))

  module _ {b : List ℕ} (second : Stripped (44 ∷ 32 ∷ 40 ∷ []) rest b) {target later : List ℕ} (its_target : target ≡ up_to 44 b) (behind_target : later ≡ from_the 44 b) where
    reads_target : read_text line ≡ and_then (read_path context) (λ c. from_target c b)
    unfolding from_context
    reads_target =
        reads_context
        ∙ (then_same (read_path (up_to 44 a)) _ (λ c. from_target c b)
        (λ c. behind (from_target c) (rw (sym behind_context) (stripped (44 ∷ 32 ∷ 40 ∷ []) rest second)))
        ∙ ap (λ (l : List ℕ). and_then (read_path l) (λ c. from_target c b)) (sym its_context))

    pub no_third : Missing (44 ∷ 32 ∷ 123 ∷ []) later → read_text line ≡ none
    unfolding from_target
    no_third m =
        reads_target
        ∙ then_none (read_path context) _
        (λ c. then_none (read_path (up_to 44 b)) _ (λ t. nothing (from_set c t) (rw (sym behind_target) (strip_none (44 ∷ 32 ∷ 123 ∷ []) later m))))

    module _ {d : List ℕ} (third : Stripped (44 ∷ 32 ∷ 123 ∷ []) later d) {set last : List ℕ} (its_set : set ≡ up_to 125 d) (behind_set : last ≡ from_the 125 d) where
      reads_set : read_text line ≡ and_then (read_path context) (λ c. and_then (read_path target) (λ t. from_set c t d))
      unfolding from_target
      reads_set =
          reads_target
          ∙ then_same (read_path context) _ (λ c. and_then (read_path target) (λ t. from_set c t d))
          (λ c.
          then_same (read_path (up_to 44 b)) _ (λ t. from_set c t d)
          (λ t. behind (from_set c t) (rw (sym behind_target) (stripped (44 ∷ 32 ∷ 123 ∷ []) later third)))
          ∙ ap (λ (l : List ℕ). and_then (read_path l) (λ t. from_set c t d)) (sym its_target))

      pub no_last : Missing (125 ∷ 41 ∷ 41 ∷ []) last → read_text line ≡ none
      unfolding from_set
      no_last m =
          reads_set
          ∙ then_none (read_path context) _
          (λ c. then_none (read_path target) _
          (λ t. then_none (read_set (up_to 125 d)) _ (λ s. nothing _ (rw (sym behind_set) (strip_none (125 ∷ 41 ∷ 41 ∷ []) last m)))))

      module _ {end : List ℕ} (closed : Stripped (125 ∷ 41 ∷ 41 ∷ []) last end) where
        reads_end : read_text line
            ≡ and_then (read_path context) (λ c. and_then (read_path target) (λ t. and_then (read_set set) (λ s. ended (record { context = c; target = t; paths = s }) end)))
        unfolding from_set
        reads_end =
            reads_set
            ∙ then_same (read_path context) _ (λ c. and_then (read_path target) (λ t. and_then (read_set set) (λ s. ended (record { context = c; target = t; paths = s }) end)))
            (λ c.
            then_same (read_path target) _ (λ t. and_then (read_set set) (λ s. ended (record { context = c; target = t; paths = s }) end))
            (λ t.
            then_same (read_set (up_to 125 d)) _ (λ s. ended (record { context = c; target = t; paths = s }) end)
            (λ s. behind (λ e. ended (record { context = c; target = t; paths = s }) e) (rw (sym behind_set) (stripped (125 ∷ 41 ∷ 41 ∷ []) last closed)))
            ∙ ap (λ (l : List ℕ). and_then (read_set l) (λ s. ended (record { context = c; target = t; paths = s }) end)) (sym its_set)))

        line_is : line ≡ 40 ∷ (context ++ (44 ∷ 32 ∷ 40 ∷ (target ++ (44 ∷ 32 ∷ 123 ∷ (set ++ (125 ∷ 41 ∷ 41 ∷ end))))))
        line_is =
            let first = behind_mark (40 ∷ []) line a (stripped (40 ∷ []) line opened) in
            let after_context = cut_whole 44 a ∙ ap₂ ◌++◌ (sym its_context) (sym behind_context) in
            let before_target = behind_mark (44 ∷ 32 ∷ 40 ∷ []) rest b (stripped (44 ∷ 32 ∷ 40 ∷ []) rest second) in
            let after_target = cut_whole 44 b ∙ ap₂ ◌++◌ (sym its_target) (sym behind_target) in
            let before_set = behind_mark (44 ∷ 32 ∷ 123 ∷ []) later d (stripped (44 ∷ 32 ∷ 123 ∷ []) later third) in
            let after_set = cut_whole 125 d ∙ ap₂ ◌++◌ (sym its_set) (sym behind_set) in
            let at_end = behind_mark (125 ∷ 41 ∷ 41 ∷ []) last end (stripped (125 ∷ 41 ∷ 41 ∷ []) last closed) in
            cc

        -- something stands behind the last bracket, or nothing
        pub cut_end : (length end ≡ 0 → Parts line context target set) × ((length end ≡ 0 → ⊥) → read_text line ≡ none)
        cut_end = at end line_is reads_end
          where
            more : (k : TypedKey) (x : ℕ) (l : List ℕ) → ended k (x ∷ l) ≡ none
            more k x l = unfold ended in refl

            at : (l : List ℕ) → line ≡ 40 ∷ (context ++ (44 ∷ 32 ∷ 40 ∷ (target ++ (44 ∷ 32 ∷ 123 ∷ (set ++ (125 ∷ 41 ∷ 41 ∷ l))))))
                → read_text line
                ≡ and_then (read_path context) (λ c. and_then (read_path target) (λ t. and_then (read_set set) (λ s. ended (record { context = c; target = t; paths = s }) l)))
                → (length l ≡ 0 → Parts line context target set) × ((length l ≡ 0 → ⊥) → read_text line ≡ none)
            at [] is reads = (λ z. record { is = is; reads = reads ∙ (unfold together ended in refl) }, λ n. absurd (n refl))
            at (x ∷ l) is reads = (
              λ z. absurd (omega arith),
              λ n.
                  reads
                  ∙ then_none (read_path context) _
                  (λ c. then_none (read_path target) _ (λ t. then_none (read_set set) _ (λ s. more (record { context = c; target = t; paths = s }) x l))),
            )

pub cut_told : {line : List ℕ} (end : List ℕ) (cut : Cut)
    → (length end ≡ 0 → Parts line cut.context.now cut.target.now cut.set.now) × ((length end ≡ 0 → ⊥) → read_text line ≡ none)
    → {b : Bool} {o : library.Option Cut} → o ≡ then_some b cut → b ≡ (length end == 0) → CutOf line o
cut_told {line} end cut ended-so {b} told e = rw told (at b e)
  where
    at : (b : Bool) → b ≡ (length end == 0) → CutOf line (then_some b cut)
    at true e = ended-so.0 (eqb-true _ _ (sym e))
    at false e = ended-so.1 (eqb-false _ _ (sym e))
