-- The lines of a table: those of `meaning`'s listing, over the table and the class function that the code has.
use Prim.Native.Nat.{ℕ, zero, suc, ◌+◌, ◌*◌, ◌<◌, ◌≤◌}
use Rattle.std.specs.Option.{IfSome}
use Rattle.std.specs.Bool.{then_some}
use Rattle.std.specs.Prelude.{◌≡◌, Option, None, Some, Bool, false, cond, not, eqb, length, get_or, take, drop}
use Rattle.std.proofs.Math.Path.{refl, sym, ap, fun_ext}
use Rattle.std.proofs.Common.{◌∙◌, arith, add-one}
use Rattle.std.proofs.Math.Bool.{true}
use mathlib.Core.List.{List, [], ◌∷◌, ◌++◌, map, flatten, append_assoc}
use Rattle.std.proofs.Math.Nat.{zero-add}
use Rattle.std.proofs.Math.ListN.{length-append, length-map}
use Rattle.meaning.specs.Limits.{block_lines}
use Rattle.meaning.specs.Lists.{numbers}
use Rattle.meaning.specs.Paths.{Class, Label, class_of, is_element}
use Rattle.meaning.specs.Trees.{Table, Node, table_of}
use Rattle.meaning.specs.Listing.{decimal, dash, first_line, node_line, listing, block}
use Rattle.write_listing.specs.Decimal.{ten_digits}
use Rattle.theory_lists.specs.Lists.{numbers_length}

-- a number or `-`, and the byte behind it
unfoldable pub field : Bool → ℕ → ℕ → List ℕ
field shown n end = cond shown (decimal n) dash ++ (end ∷ [])

-- None for `-`
abbrev pub text_of : Option ℕ → List ℕ
text_of None = dash
text_of (Some n) = decimal n

unfoldable pub field_of : Option ℕ → ℕ → List ℕ
field_of None end = field false 0 end
field_of (Some n) end = field true n end

-- A number that is shown has at most ten digits
abbrev pub Shows : Option ℕ → Type 0
Shows shown = IfSome shown (λ n. n < 4294967296)

pub field_parts : (s : Option ℕ) (end : ℕ) → text_of s ++ (end ∷ []) ≡ field_of s end
unfolding field_of field
field_parts None end = refl
field_parts (Some n) end = refl

pub field_some : (n end : ℕ) → field_of (Some n) end ≡ field true n end
unfolding field_of
field_some n end = refl

pub field_then : (b : Bool) (n end : ℕ) → field_of (then_some b n) end ≡ field b n end
unfolding field_of field
field_then true n end = refl
field_then false n end = refl

pub shows_then : (b : Bool) (n : ℕ) → n < 4294967296 → Shows (then_some b n)
shows_then true n h = h
shows_then false n h = tt

pub text_short : (s : Option ℕ) → Shows s → length (text_of s) ≤ 10
text_short None h = omega arith
text_short (Some n) h = ten_digits n h

pub field_short : (s : Option ℕ) (end : ℕ) → Shows s → length (field_of s end) ≤ 11
field_short s end h = let d = text_short s h in let e = ap length (field_parts s end) in let f = length-append (text_of s) (end ∷ []) in omega arith

unfoldable pub line_of : (ℕ → Class) → Table → ℕ → List ℕ
line_of κ t x =
    field true x 32
    ++ (field (not (eqb x 0)) (t.parent x) 32 ++ (field true (t.label x) 32 ++ field (not (is_element (κ (t.label x)))) (t.value x) 10))

unfoldable pub head_of : Table → List ℕ
head_of t = (110 ∷ 111 ∷ 100 ∷ 101 ∷ 115 ∷ 32 ∷ []) ++ field true t.size 10

unfoldable pub lines_of : (ℕ → Class) → Table → List (List ℕ)
lines_of κ t = head_of t ∷ map (line_of κ t) (numbers t.size 0)

unfoldable pub block_of : (ℕ → Class) → Table → ℕ → List ℕ
block_of κ t k = flatten (take block_lines (drop (block_lines * k) (lines_of κ t)))

-- they are the listing of `meaning`
cond_not : (b : Bool) (x y : List ℕ) → cond (not b) x y ≡ cond b y x
cond_not true x y = refl
cond_not false x y = refl

pub line_is : (labels : List Label) (nodes : List Node) (x : ℕ) → node_line labels nodes x ≡ line_of (class_of labels) (table_of nodes) x
unfolding node_line line_of field table_of
line_is labels nodes x = simp (append_assoc, cond_not)

pub block_is : (labels : List Label) (nodes : List Node) (k : ℕ) → block labels nodes k ≡ block_of (class_of labels) (table_of nodes) k
unfolding block listing block_of lines_of head_of field first_line table_of
block_is labels nodes k =
    ap (λ (f : ℕ → List ℕ). flatten (take block_lines (drop (block_lines * k) (head_of (table_of nodes) ∷ map f (numbers (length nodes) 0)))))
    (fun_ext (line_is labels nodes))

-- line number i: the first, or that of node i - 1
unfoldable pub line_at : (ℕ → Class) → Table → ℕ → List ℕ
line_at κ t zero = head_of t
line_at κ t (suc x) = line_of κ t x

numbers_at : (count n i : ℕ) → i < count → get_or (numbers count n) i 0 ≡ n + i
unfolding numbers
numbers_at zero n i h = absurd (omega arith)
numbers_at (suc count) n zero h = omega arith
numbers_at (suc count) n (suc i) h = numbers_at count (suc n) i (omega arith) ∙ (omega arith)

mapped : (f : ℕ → List ℕ) (l : List ℕ) (i : ℕ) → i < length l → get_or (map f l) i [] ≡ f (get_or l i 0)
mapped f [] i h = absurd (omega arith)
mapped f (x ∷ l) zero h = refl
mapped f (x ∷ l) (suc i) h = mapped f l i (omega arith)

pub field_length : (shown : Bool) (n end : ℕ) → n < 4294967296 → length (field shown n end) ≤ 11
unfolding field
field_length true n end h = let d = ten_digits n h in let e = length-append (decimal n) (end ∷ []) in omega arith
field_length false n end h = omega arith

module _ (κ : ℕ → Class) (t : Table) where
  pub lines_length : length (lines_of κ t) ≡ t.size + 1
  unfolding lines_of
  lines_length = let e = length-map (numbers t.size 0) (line_of κ t) ∙ numbers_length t.size 0 in ap suc e ∙ sym (add-one t.size)

  pub lines_at : (i : ℕ) → i < t.size + 1 → get_or (lines_of κ t) i [] ≡ line_at κ t i
  unfolding lines_of line_at
  lines_at zero h = refl
  lines_at (suc x) h =
      mapped (line_of κ t) (numbers t.size 0) x (let e = numbers_length t.size 0 in omega arith)
      ∙ ap (line_of κ t) (numbers_at t.size 0 x (omega arith) ∙ zero-add x)

  -- a line has at most 44 bytes
  pub line_short : (x : ℕ) → x < 4294967296 → t.parent x < 4294967296 → t.label x < 4294967296 → t.value x < 4294967296 → length (line_of κ t x) ≤ 44
  unfolding line_of
  line_short x a b c d =
      let p = field_length true x 32 a in
      let q = field_length (not (eqb x 0)) (t.parent x) 32 b in
      let r = field_length true (t.label x) 32 c in
      let s = field_length (not (is_element (κ (t.label x)))) (t.value x) 10 d in
      simp length-append (omega arith)

  pub head_short : t.size < 4294967296 → length (head_of t) ≤ 17
  unfolding head_of
  head_short h = let p = field_length true t.size 10 h in simp length-append (omega arith)
