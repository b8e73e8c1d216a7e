-- A reader of the grammar's lines, and why it reads exactly them: what is printed is read, and what is read is printed.
use Prim.Native.Nat.{ℕ, zero, suc, ◌≤◌, ◌<◌}
use Rattle.std.specs.Prelude.{◌≡◌, Bool, true, false, cond, ◌&&◌, ◌||◌, T, eqb, leb}
use Rattle.std.proofs.Math.Path.{refl}
use Rattle.std.proofs.Common.{sym, ap, subst, ◌∙◌, arith, eq-eqb, ne_eqb, eqb-true, leb-true}
use Rattle.std.proofs.Math.Bool.{not}
use mathlib.Core.List.{List, [], ◌∷◌, ◌++◌, map, append-nil}
use Rattle.std.proofs.Math.Option.{Option, none, some, some-injective, none-ne-some}
use lib.ListN.{length}
use Rattle.meaning.specs.Lists.{every, same}
use Rattle.meaning.specs.Records.{and_then}
use Rattle.meaning.specs.Refusals.{is_letter, in_name, is_name}
use Rattle.meaning.specs.Text.{Typed, any_path, text_node, attribute_named, element_named, TypedKey, well_named, print_symbol, joined_by, print_path, print_key, IsLine, dot}
use Rattle.theory_lists.specs.Bools.{true_of, and_left, and_right, every_head, every_tail, every_cons, every_append, every_map}

-- what stands before the first x, and what stands from it on
unfoldable pub up_to : ℕ → List ℕ → List ℕ
up_to x [] = []
up_to x (b ∷ l) = cond (eqb b x) [] (b ∷ up_to x l)

unfoldable pub from_the : ℕ → List ℕ → List ℕ
from_the x [] = []
from_the x (b ∷ l) = cond (eqb b x) (b ∷ l) (from_the x l)

unfoldable pub without : ℕ → List ℕ → Bool
without x l = every (λ (b : ℕ). not (eqb b x)) l

ne_false : (b x : ℕ) → T (not (eqb b x)) → eqb b x ≡ false
ne_false b x t = go (eqb b x) t
  where
    go : (c : Bool) → T (not c) → c ≡ false
    go true t = absurd t
    go false t = refl

module _ (x : ℕ) where
  pub up_to_lem : (a r : List ℕ) → T (without x a) → up_to x (a ++ (x ∷ r)) ≡ a
  unfolding up_to without
  up_to_lem [] r t = rw (eq-eqb x x refl)
  up_to_lem (b ∷ a) r t = rw (ne_false b x (every_head (λ (b : ℕ). not (eqb b x)) b a t)) (ap (λ (l : List ℕ). b ∷ l) (up_to_lem a r (every_tail (λ (b : ℕ). not (eqb b x)) b a t)))

  pub from_the_lem : (a r : List ℕ) → T (without x a) → from_the x (a ++ (x ∷ r)) ≡ x ∷ r
  unfolding from_the without
  from_the_lem [] r t = rw (eq-eqb x x refl)
  from_the_lem (b ∷ a) r t = rw (ne_false b x (every_head (λ (b : ℕ). not (eqb b x)) b a t)) (from_the_lem a r (every_tail (λ (b : ℕ). not (eqb b x)) b a t))

  pub up_to_all : (a : List ℕ) → T (without x a) → up_to x a ≡ a
  unfolding up_to without
  up_to_all [] t = refl
  up_to_all (b ∷ a) t = rw (ne_false b x (every_head (λ (b : ℕ). not (eqb b x)) b a t)) (ap (λ (l : List ℕ). b ∷ l) (up_to_all a (every_tail (λ (b : ℕ). not (eqb b x)) b a t)))

  pub from_none : (a : List ℕ) → T (without x a) → from_the x a ≡ []
  unfolding from_the without
  from_none [] t = refl
  from_none (b ∷ a) t = rw (ne_false b x (every_head (λ (b : ℕ). not (eqb b x)) b a t)) (from_none a (every_tail (λ (b : ℕ). not (eqb b x)) b a t))

-- one symbol
unfoldable pub named_of : List ℕ → Option Typed
named_of [] = none
named_of (b ∷ t) =
    cond (eqb b 64) (cond (is_name t) (some (attribute_named t)) none) (cond (is_name (b ∷ t)) (some (element_named (b ∷ t))) none)

unfoldable pub read_symbol : List ℕ → Option Typed
read_symbol t = cond (same t (95 ∷ 42 ∷ [])) (some any_path) (cond (same t (35 ∷ [])) (some text_node) (named_of t))

-- a letter is none of _ # @ . , }
letter_from : (b : ℕ) → T (is_letter b) → 65 ≤ b
unfolding is_letter
letter_from b t = go (leb 65 b) refl (leb b 90) (leb 97 b) refl (leb b 122) t
  where
    go : (p : Bool) → leb 65 b ≡ p → (q r : Bool) → leb 97 b ≡ r → (s : Bool) → T (p && q || r && s) → 65 ≤ b
    go true e q r f s t = leb-true 65 b e
    go false e q true f s t = let h = leb-true 97 b f in omega arith
    go false e q false f s t = absurd t

letter_not_95 : (b : ℕ) → T (is_letter b) → eqb b 95 ≡ false
unfolding is_letter
letter_not_95 b t = go (eqb b 95) refl
  where
    go : (p : Bool) → eqb b 95 ≡ p → p ≡ false
    go false e = refl
    go true e = absurd (subst (λ (n : ℕ). T (is_letter n)) (eqb-true b 95 e) t)

first_letter : (b : ℕ) (n : List ℕ) → T (is_name (b ∷ n)) → T (is_letter b)
unfolding is_name
first_letter b n t = and_left (is_letter b) (every in_name n) (and_left (is_letter b && every in_name n) (leb (suc (length n)) 32) t)

pub read_symbol_lem : (s : Typed) → T (well_named s) → read_symbol (print_symbol s) ≡ some s
unfolding well_named print_symbol read_symbol same named_of
read_symbol_lem any_path t = refl
read_symbol_lem text_node t = refl
read_symbol_lem (attribute_named n) t = rw (true_of (is_name n) t)
read_symbol_lem (element_named []) t = unfold is_name in absurd t
read_symbol_lem (element_named (b ∷ n)) t =
    let letter : T (is_letter b) = first_letter b n t in
    let low = letter_from b letter in
    rw (letter_not_95 b letter, ne_eqb b 35 (λ (e : b ≡ 35). omega arith), ne_eqb b 64 (λ (e : b ≡ 64). omega arith), true_of (is_name (b ∷ n)) t)

-- symbols between dots: what stands up to the next dot is a symbol; fuel is the length of the text
unfoldable pub rest_of : (List ℕ → Option (List Typed)) → Typed → List ℕ → Option (List Typed)
rest_of more s [] = some (s ∷ [])
rest_of more s (d ∷ r) = and_then (more r) (λ p. some (s ∷ p))

unfoldable pub read_symbols : ℕ → List ℕ → Option (List Typed)
read_symbols zero t = none
read_symbols (suc fuel) t = and_then (read_symbol (up_to 46 t)) (λ s. rest_of (read_symbols fuel) s (from_the 46 t))

-- a name has no dot
name_no_dot : (b : ℕ) → T (in_name b) → T (not (eqb b 46))
unfolding in_name is_letter
name_no_dot b t = go (eqb b 46) refl
  where
    go : (p : Bool) → eqb b 46 ≡ p → T (not p)
    go false e = tt
    go true e = absurd (subst (λ (n : ℕ). T (in_name n)) (eqb-true b 46 e) t)

letter_in_name : (b : ℕ) → T (is_letter b) → T (in_name b)
unfolding in_name
letter_in_name b t = rw (true_of (is_letter b) t) tt

pub name_inner : (n : List ℕ) → T (is_name n) → T (every in_name n)
unfolding is_name
name_inner [] t = absurd t
name_inner (b ∷ n) t =
    every_cons in_name b n (letter_in_name b (first_letter b n t)) (and_right (is_letter b) (every in_name n) (and_left (is_letter b && every in_name n) (leb (suc (length n)) 32) t))

pub symbol_no_dot : (s : Typed) → T (well_named s) → T (without 46 (print_symbol s))
unfolding well_named print_symbol without every
symbol_no_dot any_path t = tt
symbol_no_dot text_node t = tt
symbol_no_dot (attribute_named n) t = every_map in_name (λ (b : ℕ). not (eqb b 46)) n name_no_dot (name_inner n t)
symbol_no_dot (element_named n) t = every_map in_name (λ (b : ℕ). not (eqb b 46)) n name_no_dot (name_inner n t)

-- what is printed is read
pub read_symbols_lem : (s : Typed) (p : List Typed) → T (every well_named (s ∷ p)) → (fuel : ℕ) → length p < fuel
    → read_symbols fuel (joined_by dot (map print_symbol (s ∷ p))) ≡ some (s ∷ p)
unfolding read_symbols joined_by rest_of and_then
read_symbols_lem s p t zero h = absurd (omega arith)
read_symbols_lem s [] t (suc fuel) h =
    let w = every_head well_named s [] t in
    let n = symbol_no_dot s w in
    rw (up_to_all 46 (print_symbol s) n, from_none 46 (print_symbol s) n, read_symbol_lem s w)
read_symbols_lem s (x ∷ p) t (suc fuel) h =
    let w = every_head well_named s (x ∷ p) t in
    let n = symbol_no_dot s w in
    rw (
      up_to_lem 46 (print_symbol s) (joined_by dot (map print_symbol (x ∷ p))) n,
      from_the_lem 46 (print_symbol s) (joined_by dot (map print_symbol (x ∷ p))) n,
      read_symbol_lem s w,
      read_symbols_lem x p (every_tail well_named s (x ∷ p) t) fuel (omega arith),
    )

-- ---- paths
-- a byte of a symbol's text: in a name, or one of _ * # @
unfoldable pub in_symbol : ℕ → Bool
in_symbol b = in_name b || eqb b 42 || eqb b 35 || eqb b 64

name_in_symbol : (b : ℕ) → T (in_name b) → T (in_symbol b)
unfolding in_symbol
name_in_symbol b t = rw (true_of (in_name b) t) tt

symbol_bytes : (s : Typed) → T (well_named s) → T (every in_symbol (print_symbol s))
unfolding well_named print_symbol every in_symbol in_name is_letter
symbol_bytes any_path t = tt
symbol_bytes text_node t = tt
symbol_bytes (attribute_named n) t = every_map in_name in_symbol n name_in_symbol (name_inner n t)
symbol_bytes (element_named n) t = every_map in_name in_symbol n name_in_symbol (name_inner n t)

-- a byte of a path's text: of a symbol, or a dot. It is no comma, and no closing brace
unfoldable pub in_path_text : ℕ → Bool
in_path_text b = in_symbol b || eqb b 46

path_byte_not : (x : ℕ) → in_path_text x ≡ false → (b : ℕ) → T (in_path_text b) → T (not (eqb b x))
path_byte_not x f b t = go (eqb b x) refl
  where
    go : (p : Bool) → eqb b x ≡ p → T (not p)
    go false e = tt
    go true e = absurd (subst (λ (c : Bool). T c) f (subst (λ (n : ℕ). T (in_path_text n)) (eqb-true b x e) t))

symbol_in_path : (b : ℕ) → T (in_symbol b) → T (in_path_text b)
unfolding in_path_text
symbol_in_path b t = rw (true_of (in_symbol b) t) tt

joined_bytes : (s : Typed) (p : List Typed) → T (every well_named (s ∷ p)) → T (every in_path_text (joined_by dot (map print_symbol (s ∷ p))))
unfolding joined_by
joined_bytes s [] t = every_map in_symbol in_path_text (print_symbol s) symbol_in_path (symbol_bytes s (every_head well_named s [] t))
joined_bytes s (x ∷ p) t =
    every_append in_path_text (print_symbol s) (dot ++ joined_by dot (map print_symbol (x ∷ p)))
    (every_map in_symbol in_path_text (print_symbol s) symbol_in_path (symbol_bytes s (every_head well_named s (x ∷ p) t)))
    (every_cons in_path_text 46 (joined_by dot (map print_symbol (x ∷ p))) (unfold in_path_text in_symbol in_name is_letter in tt) (joined_bytes x p (every_tail well_named s (x ∷ p) t)))

path_bytes : (p : List Typed) → T (every well_named p) → T (every in_path_text (print_path p))
unfolding print_path
path_bytes [] t = unfold every in_path_text in_symbol in_name is_letter in tt
path_bytes (s ∷ p) t = joined_bytes s p t

pub path_without : (x : ℕ) → in_path_text x ≡ false → (p : List Typed) → T (every well_named p) → T (without x (print_path p))
unfolding without
path_without x f p t = every_map in_path_text (λ (b : ℕ). not (eqb b x)) (print_path p) (path_byte_not x f) (path_bytes p t)

unfoldable pub read_path : List ℕ → Option (List Typed)
read_path t = cond (same t dot) (some []) (read_symbols (suc (length t)) t)

joined_long : (s : Typed) (p : List Typed) → length p ≤ length (joined_by dot (map print_symbol (s ∷ p)))
unfolding joined_by
joined_long s [] = omega arith
joined_long s (x ∷ p) =
    let r = joined_long x p in
    let e = lib.ListN.length-append (print_symbol s) (dot ++ joined_by dot (map print_symbol (x ∷ p))) in
    omega arith

-- the first byte of a symbol is no dot, and there is one
not_lone : (s : Typed) (rest : List ℕ) → T (well_named s) → same (print_symbol s ++ rest) dot ≡ false
unfolding print_symbol same well_named
not_lone any_path rest t = refl
not_lone text_node rest t = refl
not_lone (attribute_named n) rest t = refl
not_lone (element_named []) rest t = absurd (unfold is_name in t)
not_lone (element_named (b ∷ n)) rest t =
    let low = letter_from b (first_letter b n t) in
    rw (ne_eqb b 46 (λ (e : b ≡ 46). omega arith))

joined_not_lone : (s : Typed) (p : List Typed) → T (every well_named (s ∷ p)) → same (joined_by dot (map print_symbol (s ∷ p))) dot ≡ false
unfolding joined_by
joined_not_lone s [] t = subst (λ (l : List ℕ). same l dot ≡ false) (append-nil (print_symbol s)) (not_lone s [] (every_head well_named s [] t))
joined_not_lone s (x ∷ p) t = not_lone s (dot ++ joined_by dot (map print_symbol (x ∷ p))) (every_head well_named s (x ∷ p) t)

pub read_path_lem : (p : List Typed) → T (every well_named p) → read_path (print_path p) ≡ some p
unfolding read_path print_path
read_path_lem [] t = unfold same in refl
read_path_lem (s ∷ p) t =
    rw (joined_not_lone s p t)
    (read_symbols_lem s p t (suc (length (joined_by dot (map print_symbol (s ∷ p))))) (let h = joined_long s p in omega arith))

-- ---- the set: paths between `, `
unfoldable pub rest_of_set : (List ℕ → Option (List (List Typed))) → List Typed → List ℕ → Option (List (List Typed))
rest_of_set more p [] = some (p ∷ [])
rest_of_set more p (c ∷ []) = none
rest_of_set more p (c ∷ b ∷ r) = cond (eqb b 32) (and_then (more r) (λ ps. some (p ∷ ps))) none

unfoldable pub read_paths : ℕ → List ℕ → Option (List (List Typed))
read_paths zero t = none
read_paths (suc fuel) t = and_then (read_path (up_to 44 t)) (λ p. rest_of_set (read_paths fuel) p (from_the 44 t))

unfoldable pub read_set : List ℕ → Option (List (List Typed))
read_set [] = some []
read_set (b ∷ t) = read_paths (suc (length (b ∷ t))) (b ∷ t)

comma_no_path : in_path_text 44 ≡ false
unfolding in_path_text in_symbol in_name is_letter
comma_no_path = refl

brace_no_path : in_path_text 125 ≡ false
unfolding in_path_text in_symbol in_name is_letter
brace_no_path = refl

pub read_paths_lem : (p : List Typed) (ps : List (List Typed)) → T (every (every well_named) (p ∷ ps)) → (fuel : ℕ) → length ps < fuel
    → read_paths fuel (joined_by Rattle.meaning.specs.Text.comma (map print_path (p ∷ ps))) ≡ some (p ∷ ps)
unfolding read_paths joined_by rest_of_set and_then
read_paths_lem p ps t zero h = absurd (omega arith)
read_paths_lem p [] t (suc fuel) h =
    let w = every_head (every well_named) p [] t in
    let n = path_without 44 comma_no_path p w in
    rw (up_to_all 44 (print_path p) n, from_none 44 (print_path p) n, read_path_lem p w)
read_paths_lem p (x ∷ ps) t (suc fuel) h =
    let w = every_head (every well_named) p (x ∷ ps) t in
    let n = path_without 44 comma_no_path p w in
    let more = joined_by Rattle.meaning.specs.Text.comma (map print_path (x ∷ ps)) in
    rw (
      up_to_lem 44 (print_path p) (32 ∷ more) n,
      from_the_lem 44 (print_path p) (32 ∷ more) n,
      read_path_lem p w,
      read_paths_lem x ps (every_tail (every well_named) p (x ∷ ps) t) fuel (omega arith),
    )

-- what is printed for some paths is not empty
set_some : (ps : List (List Typed)) (t : List ℕ) → read_paths (suc (length t)) t ≡ some ps → t ≡ [] → ⊥
unfolding read_paths up_to read_path read_symbols same read_symbol and_then from_the rest_of named_of
set_some ps [] e q = none-ne-some _ e
set_some ps (b ∷ t) e q = mathlib.Core.List.cons≢nil q

read_set_as : (t : List ℕ) → (t ≡ [] → ⊥) → read_set t ≡ read_paths (suc (length t)) t
unfolding read_set
read_set_as [] n = absurd (n refl)
read_set_as (b ∷ t) n = refl

paths_long : (p : List Typed) (ps : List (List Typed)) → length ps ≤ length (joined_by Rattle.meaning.specs.Text.comma (map print_path (p ∷ ps)))
unfolding joined_by
paths_long p [] = omega arith
paths_long p (x ∷ ps) =
    let r = paths_long x ps in
    let e = lib.ListN.length-append (print_path p) (Rattle.meaning.specs.Text.comma ++ joined_by Rattle.meaning.specs.Text.comma (map print_path (x ∷ ps))) in
    omega arith

pub read_set_lem : (ps : List (List Typed)) → T (every (every well_named) ps) → read_set (joined_by Rattle.meaning.specs.Text.comma (map print_path ps)) ≡ some ps
read_set_lem [] t = unfold read_set joined_by in refl
read_set_lem (p ∷ ps) t =
    let text = joined_by Rattle.meaning.specs.Text.comma (map print_path (p ∷ ps)) in
    let r = read_paths_lem p ps t (suc (length text)) (let h = paths_long p ps in omega arith) in
    read_set_as text (set_some (p ∷ ps) text r) ∙ r

-- ---- the line
unfoldable pub after_the : List ℕ → List ℕ → Option (List ℕ)
after_the [] l = some l
after_the (x ∷ xs) [] = none
after_the (x ∷ xs) (b ∷ l) = cond (eqb b x) (after_the xs l) none

unfoldable pub ended : TypedKey → List ℕ → Option TypedKey
ended k [] = some k
ended k (b ∷ l) = none

unfoldable pub read_text : List ℕ → Option TypedKey
read_text line =
    and_then (after_the (40 ∷ []) line)
    (λ a. and_then (read_path (up_to 44 a))
    (λ c. and_then (after_the (44 ∷ 32 ∷ 40 ∷ []) (from_the 44 a))
    (λ b. and_then (read_path (up_to 44 b))
    (λ t. and_then (after_the (44 ∷ 32 ∷ 123 ∷ []) (from_the 44 b))
    (λ d. and_then (read_set (up_to 125 d))
    (λ s. and_then (after_the (125 ∷ 41 ∷ 41 ∷ []) (from_the 125 d)) (λ e. ended (record { context = c; target = t; paths = s }) e)))))))

set_without : (ps : List (List Typed)) → T (every (every well_named) ps) → T (without 125 (joined_by Rattle.meaning.specs.Text.comma (map print_path ps)))
unfolding joined_by without every
set_without [] t = tt
set_without (p ∷ []) t = path_without 125 brace_no_path p (every_head (every well_named) p [] t)
set_without (p ∷ x ∷ ps) t =
    every_append (λ (b : ℕ). not (eqb b 125)) (print_path p) _ (path_without 125 brace_no_path p (every_head (every well_named) p (x ∷ ps) t))
    (set_without (x ∷ ps) (every_tail (every well_named) p (x ∷ ps) t))

-- what is printed is read: so a line has one reading
module _ (k : TypedKey) (named : T (Rattle.meaning.specs.Text.all_named k)) where
  named_context : T (every well_named k.context)
  unfolding Rattle.meaning.specs.Text.all_named
  named_context = and_left (every well_named k.context) (every well_named k.target) (and_left (every well_named k.context && every well_named k.target) (every (every well_named) k.paths) named)

  named_target : T (every well_named k.target)
  unfolding Rattle.meaning.specs.Text.all_named
  named_target = and_right (every well_named k.context) (every well_named k.target) (and_left (every well_named k.context && every well_named k.target) (every (every well_named) k.paths) named)

  named_paths : T (every (every well_named) k.paths)
  unfolding Rattle.meaning.specs.Text.all_named
  named_paths = and_right (every well_named k.context && every well_named k.target) (every (every well_named) k.paths) named

  pub read_text_lem : read_text (print_key k) ≡ some k
  unfolding read_text print_key after_the and_then ended
  read_text_lem =
      let set = joined_by Rattle.meaning.specs.Text.comma (map print_path k.paths) in
      let tail : List ℕ = 123 ∷ (set ++ (125 ∷ 41 ∷ 41 ∷ [])) in
      let middle : List ℕ = 40 ∷ (print_path k.target ++ (44 ∷ 32 ∷ tail)) in
      let nc = path_without 44 comma_no_path k.context named_context in
      let nt = path_without 44 comma_no_path k.target named_target in
      let ns = set_without k.paths named_paths in
      rw (
        up_to_lem 44 (print_path k.context) (32 ∷ middle) nc,
        from_the_lem 44 (print_path k.context) (32 ∷ middle) nc,
        read_path_lem k.context named_context,
        up_to_lem 44 (print_path k.target) (32 ∷ tail) nt,
        from_the_lem 44 (print_path k.target) (32 ∷ tail) nt,
        read_path_lem k.target named_target,
        up_to_lem 125 set (41 ∷ 41 ∷ []) ns,
        from_the_lem 125 set (41 ∷ 41 ∷ []) ns,
        read_set_lem k.paths named_paths,
      )

pub one_reading : (line : List ℕ) (k m : TypedKey) → IsLine line k → IsLine line m → k ≡ m
one_reading line k m p q =
    some-injective _ _ (sym (read_text_lem k p.named) ∙ ap read_text (sym p.is ∙ q.is) ∙ read_text_lem m q.named)
