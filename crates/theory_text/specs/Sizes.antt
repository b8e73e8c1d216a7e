-- How long a written line can be: every answer buffer holds it.
use Rattle.std.specs.Prelude.{ℕ, suc, ◌+◌, ◌*◌, ◌≤◌, refl, ◌&&◌, T, leb}
use Rattle.std.proofs.Common.{sym, arith, mul-suc, mul-le-mul_left, leb-true, length-append}
use Rattle.std.proofs.Math.Path.{subst}
use mathlib.Core.List.Memᴰ
use mathlib.Core.List.{List, [], ◌∷◌, ◌++◌, map, Memᴰ}
use Rattle.std.proofs.Math.ListN.{length}
use Rattle.std.proofs.lemmas.List.{length-map}
use Rattle.meaning.specs.Limits.{KeyLimits, in_profile, in_proof}
use Rattle.meaning.specs.Lists.{every}
use Rattle.meaning.specs.Paths.{Label}
use Rattle.meaning.specs.Keys.{Key}
use Rattle.meaning.specs.Refusals.{is_letter, in_name, is_name}
use Rattle.meaning.specs.Text.{Typed, any_path, text_node, attribute_named, element_named, TypedKey, well_named, all_named, print_symbol, joined_by, print_path, print_key, dot, comma, typed_symbol, typed_of}
use Rattle.theory_lists.specs.Bools.{true_of, and_left, and_right, every_head, every_tail}
use Rattle.theory_paths.specs.Good.{GoodKey, context_length, target_length, key_path_length, paths_within}
use Rattle.theory_records.specs.Profiles.{LabelsRead}
use Rattle.theory_text.specs.Names.{typed_named}

name_length : (n : List ℕ) → T (is_name n) → length n ≤ 32
unfolding is_name
name_length [] t = absurd t
name_length (b ∷ n) t = let h = leb-true (suc (length n)) 32 (true_of _ (and_right (is_letter b && every in_name n) (leb (suc (length n)) 32) t)) in omega arith

pub symbol_length : (s : Typed) → T (well_named s) → length (print_symbol s) ≤ 33
unfolding print_symbol well_named
symbol_length any_path t = omega arith
symbol_length text_node t = omega arith
symbol_length (attribute_named n) t = let h = name_length n t in omega arith
symbol_length (element_named n) t = let h = name_length n t in omega arith

joined_length : (s : Typed) (p : List Typed) → T (every well_named (s ∷ p)) → length (joined_by dot (map print_symbol (s ∷ p))) ≤ 34 * length (s ∷ p)
unfolding joined_by
joined_length s [] t = let h = symbol_length s (every_head well_named s [] t) in omega arith
joined_length s (x ∷ p) t =
    let h = symbol_length s (every_head well_named s (x ∷ p) t) in
    let m = joined_length x p (every_tail well_named s (x ∷ p) t) in
    let e = length-append (print_symbol s) (dot ++ joined_by dot (map print_symbol (x ∷ p))) in
    omega arith

pub path_size : (p : List Typed) → T (every well_named p) → length (print_path p) ≤ 34 * length p + 1
unfolding print_path
path_size [] t = omega arith
path_size (s ∷ p) t = let h = joined_length s p t in omega arith

-- key paths of so many bytes each, with the comma behind them
set_size : (width : ℕ) (ps : List (List Typed)) → T (every (every well_named) ps) → ((p : List Typed) → Memᴰ p ps → 34 * length p + 3 ≤ width)
    → length (joined_by comma (map print_path ps)) ≤ width * length ps
unfolding joined_by
set_size width [] t h = omega arith
set_size width (p ∷ []) t h =
    let a = path_size p (every_head (every well_named) p [] t) in
    let b = h p (Memᴰ.head refl) in
    omega (arith, mul-suc width 0)
set_size width (p ∷ x ∷ ps) t h =
    let a = path_size p (every_head (every well_named) p (x ∷ ps) t) in
    let b = h p (Memᴰ.head refl) in
    let m = set_size width (x ∷ ps) (every_tail (every well_named) p (x ∷ ps) t) (λ q i. h q (Memᴰ.tail i)) in
    let e = length-append (print_path p) (comma ++ joined_by comma (map print_path (x ∷ ps))) in
    omega (arith, mul-suc width (length (x ∷ ps)))

-- the bytes of a line whose key is within the limits: 33 and a dot for each symbol, 12 between the paths
unfoldable pub longest_line : KeyLimits → ℕ
longest_line limits = 68 * limits.symbols + (34 * limits.path_symbols + 3) * limits.paths + 12

line_size : (limits : KeyLimits) (k : TypedKey) → T (all_named k) → length k.context ≤ limits.symbols → length k.target ≤ limits.symbols
    → length k.paths ≤ limits.paths → ((p : List Typed) → Memᴰ p k.paths → length p ≤ limits.path_symbols) → length (print_key k) ≤ longest_line limits
unfolding print_key all_named longest_line
line_size limits k t c g n h =
    let two = and_left (every well_named k.context && every well_named k.target) (every (every well_named) k.paths) t in
    let a = path_size k.context (and_left (every well_named k.context) (every well_named k.target) two) in
    let b = path_size k.target (and_right (every well_named k.context) (every well_named k.target) two) in
    let width : ℕ = 34 * limits.path_symbols + 3 in
    let d =
    set_size width k.paths (and_right (every well_named k.context && every well_named k.target) (every (every well_named) k.paths) t)
    (λ p i. let s = h p i in omega arith) in
    let most = mul-le-mul_left width n in
    let set : List ℕ = joined_by comma (map print_path k.paths) in
    let tail : List ℕ = 44 ∷ 32 ∷ 123 ∷ (set ++ (125 ∷ 41 ∷ 41 ∷ [])) in
    let x = length-append set (125 ∷ 41 ∷ 41 ∷ []) in
    let y = length-append (print_path k.target) tail in
    let z = length-append (print_path k.context) (44 ∷ 32 ∷ 40 ∷ (print_path k.target ++ tail)) in
    omega arith

mapped : {A B : Type 0} (f : A → B) (xs : List A) (Q : B → Type 0) → ((x : A) → Memᴰ x xs → Q (f x)) → (y : B) → Memᴰ y (map f xs) → Q y
mapped f [] Q h y m = absurd (Memᴰ.not-nil m)
mapped f (x ∷ xs) Q h y (Memᴰ.head e) = subst Q (sym e) (h x (Memᴰ.head refl))
mapped f (x ∷ xs) Q h y (Memᴰ.tail m) = mapped f xs Q (λ z i. h z (Memᴰ.tail i)) y m

-- the line of a key within the limits, by the names of accepted labels
key_fits : {labels : List Label} → LabelsRead labels → {limits : KeyLimits} (key : Key) → GoodKey labels limits key
    → length (print_key (typed_of labels key)) ≤ longest_line limits
key_fits {labels} r {limits} key good =
    line_size limits (typed_of labels key) (typed_named r key good) context target paths
    (unfold typed_of in mapped (map (typed_symbol labels)) key.paths (λ (p : List Typed). length p ≤ limits.path_symbols)
    (λ p m. subst (λ (n : ℕ). n ≤ limits.path_symbols) (sym (length-map p (typed_symbol labels))) (key_path_length labels limits key good p m)))
  where
    context : length (typed_of labels key).context ≤ limits.symbols
    context =
        unfold typed_of in subst (λ (n : ℕ). n ≤ limits.symbols) (sym (length-map key.context (typed_symbol labels))) (context_length labels limits key good)

    target : length (typed_of labels key).target ≤ limits.symbols
    target =
        unfold typed_of in subst (λ (n : ℕ). n ≤ limits.symbols) (sym (length-map key.target (typed_symbol labels))) (target_length labels limits key good)

    paths : length (typed_of labels key).paths ≤ limits.paths
    paths =
        unfold typed_of in subst (λ (n : ℕ). n ≤ limits.paths) (sym (length-map key.paths (map (typed_symbol labels)))) (paths_within labels limits key good)

-- the line of an accepted question
pub line_fits : {labels : List Label} → LabelsRead labels → (key : Key) → GoodKey labels in_profile key → length (print_key (typed_of labels key)) ≤ 1700
unfolding longest_line
line_fits r key good = let h = key_fits r key good in omega arith

-- and of a proof line
pub proof_line_fits : {labels : List Label} → LabelsRead labels → (key : Key) → GoodKey labels in_proof key → length (print_key (typed_of labels key)) ≤ 40000
unfolding longest_line
proof_line_fits r key good = let h = key_fits r key good in omega arith
