-- What is read is printed: a text that the reader takes is a line of the grammar, so 17 comes exactly where it reads nothing.
use Rattle.std.specs.Prelude.{ℕ, zero, suc, ◌≡◌, Bool, ◌&&◌, T, length}
use Rattle.std.proofs.Math.Path.{refl, sym, ap, subst}
use Rattle.std.proofs.Common.{ap₂, ◌∙◌, eqb-true}
use Rattle.std.proofs.Math.Bool.{true, false, cond}
use mathlib.Core.List.{List, [], ◌∷◌, ◌++◌, map, append-nil, cons≢nil, head-eq_of_cons-eq}
use Rattle.std.proofs.Math.Option.{Option, none, some, some-injective, none-ne-some}
use Rattle.std.proofs.Math.Dec.{eqb}
use Rattle.meaning.specs.Lists.{every, same}
use Rattle.meaning.specs.Records.{and_then}
use Rattle.meaning.specs.Refusals.{is_name}
use Rattle.meaning.specs.Text.{Typed, any_path, text_node, attribute_named, element_named, TypedKey, well_named, all_named, print_symbol, joined_by, print_path, print_key, IsLine, dot, comma}
use Rattle.theory_lists.specs.Bools.{of_true, both, every_cons, same_eq}
use Rattle.theory_text.specs.Reading.{up_to, from_the, named_of, read_symbol, rest_of, read_symbols, read_path, rest_of_set, read_paths, read_set, after_the, ended, read_text, read_text_lem}

pub then_some : {A B : Type 0} (o : Option A) (f : A → Option B) {b : B} → and_then o f ≡ some b → (a : A) × (o ≡ some a) × (f a ≡ some b)
unfolding and_then
then_some none f e = absurd (none-ne-some _ e)
then_some (some a) f e = (a, refl, e)

-- a text is what stands before the first x, and what stands from it on
up_from : (x : ℕ) (l : List ℕ) → up_to x l ++ from_the x l ≡ l
unfolding up_to from_the
up_from x [] = refl
up_from x (b ∷ l) = go (eqb b x) (up_from x l)
  where
    go : (c : Bool) → up_to x l ++ from_the x l ≡ l → cond c [] (b ∷ up_to x l) ++ cond c (b ∷ l) (from_the x l) ≡ b ∷ l
    go true e = refl
    go false e = ap (λ (r : List ℕ). b ∷ r) e

from_first : (x : ℕ) (l : List ℕ) (d : ℕ) (r : List ℕ) → from_the x l ≡ d ∷ r → d ≡ x
unfolding from_the
from_first x [] d r e = absurd (cons≢nil (sym e))
from_first x (b ∷ l) d r e = go (eqb b x) refl e (from_first x l d r)
  where
    go : (c : Bool) → eqb b x ≡ c → cond c (b ∷ l) (from_the x l) ≡ d ∷ r → (from_the x l ≡ d ∷ r → d ≡ x) → d ≡ x
    go true q f more = sym (head-eq_of_cons-eq f) ∙ eqb-true b x q
    go false q f more = more f

-- a text is a symbol's
record PrintsSymbol (t : List ℕ) (s : Typed) : Type 0 where
  is : print_symbol s ≡ t
  named : T (well_named s)

named_printed : (t : List ℕ) (s : Typed) → named_of t ≡ some s → PrintsSymbol t s
unfolding named_of
named_printed [] s e = absurd (none-ne-some _ e)
named_printed (b ∷ t) s e = go (eqb b 64) refl (is_name t) refl (is_name (b ∷ t)) refl e
  where
    go : (c : Bool) → eqb b 64 ≡ c → (m : Bool) → is_name t ≡ m → (n : Bool) → is_name (b ∷ t) ≡ n
        → cond c (cond m (some (attribute_named t)) none) (cond n (some (element_named (b ∷ t))) none) ≡ some s → PrintsSymbol (b ∷ t) s
    go true c true m n p e =
        subst (PrintsSymbol (b ∷ t)) (some-injective _ _ e)
        (record { is = unfold print_symbol in ap (λ (x : ℕ). x ∷ t) (sym (eqb-true b 64 c)); named = unfold well_named in of_true _ m })
    go true c false m n p e = absurd (none-ne-some _ e)
    go false c m q true p e =
        subst (PrintsSymbol (b ∷ t)) (some-injective _ _ e) (record { is = unfold print_symbol in refl; named = unfold well_named in of_true _ p })
    go false c m q false p e = absurd (none-ne-some _ e)

symbol_printed : (t : List ℕ) (s : Typed) → read_symbol t ≡ some s → PrintsSymbol t s
unfolding read_symbol
symbol_printed t s e = go (same t (95 ∷ 42 ∷ [])) refl (same t (35 ∷ [])) refl e
  where
    go : (c : Bool) → same t (95 ∷ 42 ∷ []) ≡ c → (d : Bool) → same t (35 ∷ []) ≡ d
        → cond c (some any_path) (cond d (some text_node) (named_of t)) ≡ some s → PrintsSymbol t s
    go true c d q e =
        subst (PrintsSymbol t) (some-injective _ _ e)
        (record { is = unfold print_symbol in sym (same_eq t (95 ∷ 42 ∷ []) (of_true _ c)); named = unfold well_named in tt })
    go false c true q e =
        subst (PrintsSymbol t) (some-injective _ _ e)
        (record { is = unfold print_symbol in sym (same_eq t (35 ∷ []) (of_true _ q)); named = unfold well_named in tt })
    go false c false q e = named_printed t s e

-- a text is that of symbols with dots between them
record PrintsSymbols (t : List ℕ) (p : List Typed) : Type 0 where
  first : Typed
  more : List Typed
  are : first ∷ more ≡ p
  is : joined_by dot (map print_symbol (first ∷ more)) ≡ t
  named : T (every well_named (first ∷ more))

symbols_printed : (fuel : ℕ) (t : List ℕ) (p : List Typed) → read_symbols fuel t ≡ some p → PrintsSymbols t p
unfolding read_symbols rest_of joined_by every
symbols_printed zero t p e = absurd (none-ne-some _ e)
symbols_printed (suc fuel) t p e =
    let a = then_some _ _ e in
    go a.0 (symbol_printed (up_to 46 t) a.0 a.1) (from_the 46 t) refl a.2 (symbols_printed fuel)
  where
    go : (s : Typed) → PrintsSymbol (up_to 46 t) s → (r : List ℕ) → from_the 46 t ≡ r → rest_of (read_symbols fuel) s r ≡ some p
        → ((t : List ℕ) (p : List Typed) → read_symbols fuel t ≡ some p → PrintsSymbols t p) → PrintsSymbols t p
    go s w [] q e more =
        record {
          first = s;
          more = [];
          are = some-injective _ _ (e);
          is = (w.is ∙ (sym (append-nil (up_to 46 t)) ∙ (ap (λ (r : List ℕ). up_to 46 t ++ r) (sym q) ∙ up_from 46 t)));
          named = every_cons well_named s [] w.named (unfold every in tt);
        }
    go s w (d ∷ r) q e more =
        let a = then_some _ _ (e) in
        let m = more r a.0 a.1 in
        record {
          first = s;
          more = m.first ∷ m.more;
          are = ap (λ (l : List Typed). s ∷ l) m.are ∙ some-injective _ _ a.2;
          is =
              (ap₂ (λ (x y : List ℕ). x ++ (46 ∷ y)) w.is m.is
              ∙ (ap (λ (x : ℕ). up_to 46 t ++ (x ∷ r)) (sym (from_first 46 t d r q)) ∙ (ap (λ (l : List ℕ). up_to 46 t ++ l) (sym q) ∙ up_from 46 t)));
          named = every_cons well_named s (m.first ∷ m.more) w.named m.named;
        }

-- a text is a path's
record PrintsPath (t : List ℕ) (p : List Typed) : Type 0 where
  is : print_path p ≡ t
  named : T (every well_named p)

path_printed : (t : List ℕ) (p : List Typed) → read_path t ≡ some p → PrintsPath t p
unfolding read_path print_path every
path_printed t p e = go (same t dot) refl e
  where
    go : (c : Bool) → same t dot ≡ c → cond c (some []) (read_symbols (suc (length t)) t) ≡ some p → PrintsPath t p
    go true c e =
        subst (PrintsPath t) (some-injective _ _ e)
        (record { is = sym (same_eq t dot (of_true _ c)); named = tt })
    go false c e =
        let m = symbols_printed (suc (length t)) t p e in
        subst (PrintsPath t) m.are (record { is = m.is; named = m.named })

-- a text is that of paths with a comma and a space between them
record PrintsPaths (t : List ℕ) (ps : List (List Typed)) : Type 0 where
  first : List Typed
  more : List (List Typed)
  are : first ∷ more ≡ ps
  is : joined_by comma (map print_path (first ∷ more)) ≡ t
  named : T (every (every well_named) (first ∷ more))

paths_printed : (fuel : ℕ) (t : List ℕ) (ps : List (List Typed)) → read_paths fuel t ≡ some ps → PrintsPaths t ps
unfolding read_paths rest_of_set joined_by every
paths_printed zero t ps e = absurd (none-ne-some _ e)
paths_printed (suc fuel) t ps e =
    let a = then_some _ _ e in
    go a.0 (path_printed (up_to 44 t) a.0 a.1) (from_the 44 t) refl a.2 (paths_printed fuel)
  where
    behind : (s : List Typed) → PrintsPath (up_to 44 t) s → (d b : ℕ) (r : List ℕ) → from_the 44 t ≡ d ∷ b ∷ r → b ≡ 32
        → and_then (read_paths fuel r) (λ ps. some (s ∷ ps)) ≡ some ps
        → ((t : List ℕ) (ps : List (List Typed)) → read_paths fuel t ≡ some ps → PrintsPaths t ps) → PrintsPaths t ps
    behind s w d b r q space e more =
        let a = then_some _ _ e in
        let m = more r a.0 a.1 in
        record {
          first = s;
          more = m.first ∷ m.more;
          are = ap (λ (l : List (List Typed)). s ∷ l) m.are ∙ some-injective _ _ a.2;
          is =
              (ap₂ (λ (x y : List ℕ). x ++ (44 ∷ 32 ∷ y)) w.is m.is
              ∙ (ap₂ (λ (x y : ℕ). up_to 44 t ++ (x ∷ y ∷ r)) (sym (from_first 44 t d (b ∷ r) q)) (sym space)
              ∙ (ap (λ (l : List ℕ). up_to 44 t ++ l) (sym q) ∙ up_from 44 t)));
          named = every_cons (every well_named) s (m.first ∷ m.more) w.named m.named;
        }

    go : (s : List Typed) → PrintsPath (up_to 44 t) s → (r : List ℕ) → from_the 44 t ≡ r → rest_of_set (read_paths fuel) s r ≡ some ps
        → ((t : List ℕ) (ps : List (List Typed)) → read_paths fuel t ≡ some ps → PrintsPaths t ps) → PrintsPaths t ps
    go s w [] q e more =
        record {
          first = s;
          more = [];
          are = some-injective _ _ (e);
          is = (w.is ∙ (sym (append-nil (up_to 44 t)) ∙ (ap (λ (r : List ℕ). up_to 44 t ++ r) (sym q) ∙ up_from 44 t)));
          named = every_cons (every well_named) s [] w.named (unfold every in tt);
        }
    go s w (d ∷ []) q e more = absurd (none-ne-some _ (e))
    go s w (d ∷ b ∷ r) q e more = at (eqb b 32) refl (e)
      where
        at : (c : Bool) → eqb b 32 ≡ c → cond c (and_then (read_paths fuel r) (λ ps. some (s ∷ ps))) none ≡ some ps → PrintsPaths t ps
        at true c e = behind s w d b r q (eqb-true b 32 c) e more
        at false c e = absurd (none-ne-some _ e)

-- a text is a set's
record PrintsSet (t : List ℕ) (ps : List (List Typed)) : Type 0 where
  is : joined_by comma (map print_path ps) ≡ t
  named : T (every (every well_named) ps)

set_printed : (t : List ℕ) (ps : List (List Typed)) → read_set t ≡ some ps → PrintsSet t ps
unfolding read_set
set_printed [] ps e = subst (PrintsSet []) (some-injective _ _ e) (record { is = unfold joined_by in refl; named = unfold every in tt })
set_printed (b ∷ t) ps e =
    let m = paths_printed (suc (length (b ∷ t))) (b ∷ t) ps e in
    subst (PrintsSet (b ∷ t)) m.are (record { is = m.is; named = m.named })

-- fixed bytes, and the end
after_said : (xs l r : List ℕ) → after_the xs l ≡ some r → xs ++ r ≡ l
unfolding after_the
after_said [] l r e = sym (some-injective _ _ e)
after_said (x ∷ xs) [] r e = absurd (none-ne-some _ e)
after_said (x ∷ xs) (b ∷ l) r e = go (eqb b x) refl e (after_said xs l r)
  where
    go : (c : Bool) → eqb b x ≡ c → cond c (after_the xs l) none ≡ some r → (after_the xs l ≡ some r → xs ++ r ≡ l) → x ∷ (xs ++ r) ≡ b ∷ l
    go true c e more = ap₂ (λ (y : ℕ) (m : List ℕ). y ∷ m) (sym (eqb-true b x c)) (more e)
    go false c e more = absurd (none-ne-some _ e)

ended_said : (k m : TypedKey) (l : List ℕ) → ended k l ≡ some m → (l ≡ []) × (k ≡ m)
unfolding ended
ended_said k m [] e = (refl, some-injective _ _ e)
ended_said k m (b ∷ l) e = absurd (none-ne-some _ e)

-- the parts of a line, one behind the other
put : (c t : List Typed) (s : List (List Typed)) (line a b d z : List ℕ) → PrintsPath (up_to 44 a) c → PrintsPath (up_to 44 b) t → PrintsSet (up_to 125 d) s
    → (40 ∷ []) ++ a ≡ line → (44 ∷ 32 ∷ 40 ∷ []) ++ b ≡ from_the 44 a → (44 ∷ 32 ∷ 123 ∷ []) ++ d ≡ from_the 44 b
    → (125 ∷ 41 ∷ 41 ∷ []) ++ z ≡ from_the 125 d → z ≡ [] → print_key (record { context = c; target = t; paths = s }) ≡ line
unfolding print_key
put c t s line a b d z C P S e f g h n =
    ap (λ (l : List ℕ). 40 ∷ l) (ap₂ (λ (x y : List ℕ). x ++ y) C.is (ap (λ (l : List ℕ). 44 ∷ 32 ∷ 40 ∷ l) middle ∙ f) ∙ up_from 44 a) ∙ e
  where
    inner : joined_by comma (map print_path s) ++ (125 ∷ 41 ∷ 41 ∷ []) ≡ d
    inner = ap₂ (λ (x y : List ℕ). x ++ y) S.is (ap (λ (l : List ℕ). 125 ∷ 41 ∷ 41 ∷ l) (sym n) ∙ h) ∙ up_from 125 d

    middle : print_path t ++ (44 ∷ 32 ∷ 123 ∷ (joined_by comma (map print_path s) ++ (125 ∷ 41 ∷ 41 ∷ []))) ≡ b
    middle = ap₂ (λ (x y : List ℕ). x ++ y) P.is (ap (λ (l : List ℕ). 44 ∷ 32 ∷ 123 ∷ l) inner ∙ g) ∙ up_from 44 b

put_line : (c t : List Typed) (s : List (List Typed)) (line a b d z : List ℕ) → PrintsPath (up_to 44 a) c → PrintsPath (up_to 44 b) t → PrintsSet (up_to 125 d) s
    → (40 ∷ []) ++ a ≡ line → (44 ∷ 32 ∷ 40 ∷ []) ++ b ≡ from_the 44 a → (44 ∷ 32 ∷ 123 ∷ []) ++ d ≡ from_the 44 b
    → (125 ∷ 41 ∷ 41 ∷ []) ++ z ≡ from_the 125 d → z ≡ [] → IsLine line (record { context = c; target = t; paths = s })
unfolding all_named
put_line c t s line a b d z C P S e f g h n =
    record {
      named = both (every well_named c && every well_named t) (every (every well_named) s) (both (every well_named c) (every well_named t) C.named P.named) S.named;
      is = sym (put c t s line a b d z C P S e f g h n);
    }

-- what is read is printed
pub print_read : (line : List ℕ) (k : TypedKey) → read_text line ≡ some k → IsLine line k
unfolding read_text
print_read line k e =
    let a = then_some _ _ e in
    let c = then_some _ _ a.2 in
    let b = then_some _ _ c.2 in
    let t = then_some _ _ b.2 in
    let d = then_some _ _ t.2 in
    let s = then_some _ _ d.2 in
    let z = then_some _ _ s.2 in
    let last = ended_said (record { context = c.0; target = t.0; paths = s.0 }) k z.0 z.2 in
    subst (IsLine line) last.1
    (put_line c.0 t.0 s.0 line a.0 b.0 d.0 z.0
    (path_printed (up_to 44 a.0) c.0 c.1) (path_printed (up_to 44 b.0) t.0 t.1) (set_printed (up_to 125 d.0) s.0 s.1)
    (after_said _ _ _ a.1) (after_said _ _ _ b.1) (after_said _ _ _ d.1) (after_said _ _ _ z.1) last.0)

-- no line of the grammar: the reader reads nothing, and back
pub none_line : (line : List ℕ) → read_text line ≡ none → (k : TypedKey) → IsLine line k → ⊥
none_line line e k w = none-ne-some _ (sym e ∙ (ap read_text w.is ∙ read_text_lem k w.named))

pub line_none : (line : List ℕ) → ((k : TypedKey) → IsLine line k → ⊥) → read_text line ≡ none
line_none line h = go (read_text line) refl
  where
    go : (o : Option TypedKey) → read_text line ≡ o → o ≡ none
    go none e = refl
    go (some k) e = absurd (h k (print_read line k e))
