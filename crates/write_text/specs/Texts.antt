-- What is written of a label, of a symbol, of a path and of key paths: the parts of `print_key`.
use Rattle.std.specs.Prelude.{ℕ, ◌+◌, ◌<◌, ◌≡◌, refl, Bool, true, false, cond, List, [], ◌∷◌, ◌++◌, map, eqb, length, get_or, drop}
use Rattle.std.proofs.Common.{◌∙◌, ap, arith, ne_eqb, eq-eqb, length-append}
use Rattle.std.proofs.lemmas.Simd.{map-map}
use Rattle.meaning.specs.Limits.{text_label, attribute_class}
use Rattle.meaning.specs.Paths.{Label, element, attribute, declared_class}
use Rattle.meaning.specs.Keys.{Key}
use Rattle.meaning.specs.Records.{read_label}
use Rattle.meaning.specs.Text.{print_symbol, joined_by, print_path, print_key, dot, comma, name_of, named, typed_symbol, typed_of}

unfoldable pub label_text : Label → List ℕ
label_text l = print_symbol (named (cond (eqb l.class attribute_class) attribute element) l.name)

unfoldable pub declared_text : List Label → ℕ → List ℕ
declared_text labels n = print_symbol (named (declared_class labels n) (name_of labels n))

unfoldable pub symbol_text : List Label → ℕ → List ℕ
symbol_text labels s = print_symbol (typed_symbol labels s)

unfoldable pub path_text : List Label → List ℕ → List ℕ
path_text labels p = print_path (map (typed_symbol labels) p)

unfoldable pub paths_text : List Label → List (List ℕ) → List ℕ
paths_text labels ps = joined_by comma (map (path_text labels) ps)

-- a label
pub label_plain : (body : List ℕ) → (get_or body 1 0 ≡ 2 → ⊥) → label_text (read_label body) ≡ drop 2 body
unfolding label_text read_label print_symbol named
label_plain body h = rw (ne_eqb (get_or body 1 0) 2 h)

pub label_attribute : (body : List ℕ) → get_or body 1 0 ≡ 2 → label_text (read_label body) ≡ (64 ∷ []) ++ drop 2 body
unfolding label_text read_label print_symbol named
label_attribute body h = rw (eq-eqb (get_or body 1 0) 2 h)

-- a declared label
pub declared_none : (n : ℕ) → declared_text [] n ≡ []
unfolding declared_text print_symbol named declared_class name_of
declared_none n = refl

pub declared_more : (l : Label) (labels : List Label) (n : ℕ)
    → declared_text (l ∷ labels) n ≡ cond (eqb l.number n) (label_text l) (declared_text labels n)
unfolding declared_text label_text declared_class name_of
declared_more l labels n = go (eqb l.number n)
  where
    go : (b : Bool)
        → print_symbol (named (cond b (cond (eqb l.class attribute_class) attribute element) (declared_class labels n)) (cond b l.name (name_of labels n)))
        ≡ cond b (print_symbol (named (cond (eqb l.class attribute_class) attribute element) l.name)) (print_symbol (named (declared_class labels n) (name_of labels n)))
    go true = refl
    go false = refl

-- a symbol
pub symbol_any : (labels : List Label) (s : ℕ) → s ≡ 0 → symbol_text labels s ≡ 95 ∷ 42 ∷ []
unfolding symbol_text typed_symbol print_symbol
symbol_any labels s h = rw h

pub symbol_text_lem : (labels : List Label) (s : ℕ) → s ≡ 1 → symbol_text labels s ≡ 35 ∷ []
unfolding symbol_text typed_symbol print_symbol
symbol_text_lem labels s h = rw h

pub symbol_declared : (labels : List Label) (s : ℕ) → (s ≡ 0 → ⊥) → (s ≡ 1 → ⊥) → symbol_text labels s ≡ declared_text labels s
unfolding symbol_text declared_text typed_symbol
symbol_declared labels s h k = rw (ne_eqb s 0 h, ne_eqb s text_label k)

-- a path
pub path_empty : (labels : List Label) (p : List ℕ) → length p ≡ 0 → path_text labels p ≡ dot
unfolding path_text print_path
path_empty labels [] h = refl
path_empty labels (s ∷ p) h = absurd (omega arith)

pub path_joined : (labels : List Label) (p : List ℕ) → 0 < length p → path_text labels p ≡ joined_by dot (map (symbol_text labels) p)
unfolding path_text print_path symbol_text
path_joined labels [] h = absurd (omega arith)
path_joined labels (s ∷ p) h = ap (joined_by dot) (map-map print_symbol (typed_symbol labels) (s ∷ p))

-- a line
pub line_is : (labels : List Label) (key : Key)
    → print_key (typed_of labels key)
    ≡ (40 ∷ []) ++ (path_text labels key.context ++ ((44 ∷ 32 ∷ 40 ∷ []) ++ (path_text labels key.target ++ ((44 ∷ 32 ∷ 123 ∷ [])
    ++ (paths_text labels key.paths ++ (125 ∷ 41 ∷ 41 ∷ []))))))
unfolding print_key typed_of path_text paths_text
line_is labels key =
    ap
    (λ (ts : List (List ℕ)). (40 ∷ []) ++ (path_text labels key.context ++ ((44 ∷ 32 ∷ 40 ∷ []) ++ (path_text labels key.target ++ ((44 ∷ 32 ∷ 123 ∷ [])
    ++ (joined_by comma ts ++ (125 ∷ 41 ∷ 41 ∷ [])))))))
    (map-map print_path (map (typed_symbol labels)) key.paths)

pub line_length : (labels : List Label) (key : Key)
    → length (print_key (typed_of labels key))
    ≡ 10 + length (path_text labels key.context) + length (path_text labels key.target) + length (paths_text labels key.paths)
line_length labels key =
    let c : List ℕ = path_text labels key.context in
    let t : List ℕ = path_text labels key.target in
    let s : List ℕ = paths_text labels key.paths in
    let x = length-append s (125 ∷ 41 ∷ 41 ∷ []) in
    let y = length-append t (44 ∷ 32 ∷ 123 ∷ (s ++ (125 ∷ 41 ∷ 41 ∷ []))) in
    let z = length-append c (44 ∷ 32 ∷ 40 ∷ (t ++ (44 ∷ 32 ∷ 123 ∷ (s ++ (125 ∷ 41 ∷ 41 ∷ []))))) in
    ap length (line_is labels key) ∙ (omega arith)
