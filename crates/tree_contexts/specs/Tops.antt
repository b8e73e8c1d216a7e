-- The highest context of a node: the least node that the context path reaches from the root and that reaches the node by the target. Two nodes
-- have a common context exactly when they have the same highest one, so a pair costs one comparison.
use Rattle.std.specs.Prelude.{ℕ, zero, suc, ◌+◌, ◌-◌, ◌<◌, ◌≤◌, ◌≡◌, refl, length, get_or, take, drop}
use Rattle.std.proofs.Common.{sym, ◌∙◌, ap, subst, arith, length-drop, take-append-drop}
use mathlib.Core.List.{List, [], ◌∷◌, ◌++◌, append_assoc, cons≢nil, head-eq_of_cons-eq, tail-eq_of_cons-eq}
use Rattle.std.proofs.Math.Decide.{dec_lt}
use Rattle.meaning.specs.Trees.{Table, Down, Reached}
use Rattle.theory_paths.specs.Words.{Word, word_more}
use Rattle.theory_trees.specs.Below.{ParentsSmaller, down_append, down_split, down_greater, rigid_node, rigid_run}
use Rattle.theory_trees.specs.Reach.{reached_by, reached_word, reached_inside}
use Rattle.tree_contexts.specs.Tabled.{Tabled}
use Rattle.tree_contexts.specs.Least.{LeastAt, Least, reached_above, above_inside}

-- v and w are words, and v still is one behind u: then so is w
exchange : (path u v w : List ℕ) → Word path (u ++ v) → Word path v → Word path w → Word path (u ++ w)
unfolding Word
exchange [] [] v w a b c = c
exchange [] (x ∷ u) v w a b c = absurd (cons≢nil a)
exchange (zero ∷ path) u v w a b c = word_more path u w c
exchange (suc l ∷ path) [] v w a b c = c
exchange (suc l ∷ path) (x ∷ u) v w a b c =
    let h : x ≡ suc l = head-eq_of_cons-eq a.1 in
    let longer : (u ++ (suc l ∷ [])) ++ b.0 ≡ a.0 =
    append_assoc u (suc l ∷ []) b.0 ∙ ap (λ (s : List ℕ). u ++ s) (sym b.1) ∙ tail-eq_of_cons-eq a.1 in
    let again : (u ++ (suc l ∷ [])) ++ c.0 ≡ u ++ w = append_assoc u (suc l ∷ []) c.0 ∙ ap (λ (s : List ℕ). u ++ s) (sym c.1) in (
      u ++ w,
      ap (λ (k : ℕ). k ∷ (u ++ w)) h,
      subst (Word path) again
          (exchange path (u ++ (suc l ∷ [])) b.0 c.0 (subst (Word path) (sym longer) a.2) b.2 c.2),
    )

-- Two nodes above a third: the lower one lies below the other
record Nested (t : Table) (p q : ℕ) (r s : List ℕ) : Type 0 where
  between : List ℕ
  down : Down t p between q
  whole : r ≡ between ++ s

module _ {t : Table} where
  -- the longer run down to a node passes the shorter one's upper end
  passes : {p q a : ℕ} (r s : List ℕ) → length s ≤ length r → Down t p r a → Down t q s a → Nested t p q r s
  passes {p} {q} {a} r s h d e =
      let k = length r - length s in
      let whole : r ≡ take k r ++ drop k r = sym (take-append-drop k r) in
      let way = down_split (take k r) (drop k r) (subst (λ (l : List ℕ). Down t p l a) whole d) in
      let same : length (drop k r) ≡ length s = length-drop k r ∙ (omega arith) in
      record {
        between = take k r;
        down = subst (Down t p (take k r)) (rigid_node way.below e same) way.above;
        whole = whole ∙ ap (λ (l : List ℕ). take k r ++ l) (rigid_run way.below e same);
      }

  nested : ParentsSmaller t → {p q a : ℕ} (r s : List ℕ) → p ≤ q → Down t p r a → Down t q s a → Nested t p q r s
  nested small {p} {q} r s h d e = go (dec_lt (length r) (length s))
    where
      go : Dec (length r < length s) → Nested t p q r s
      go (no n) = passes r s (omega arith) d e
      go (yes n) =
          let k = passes s r (omega arith) e d in
          let g = down_greater small k.down in
          let f = ap length k.whole in
          absurd (short k.between f g)
        where
          short : (u : List ℕ) → length s ≡ length (u ++ r) → q + length u ≤ p → ⊥
          short [] f g = omega arith
          short (x ∷ u) f g = let z : length (x ∷ u) ≡ suc (length u) = refl in omega arith

  -- a higher node that reaches a reaches all that the lower one reaches
  higher_reaches : ParentsSmaller t → {p q a b : ℕ} {path : List ℕ} → p ≤ q → Reached t p path a → Reached t q path a → Reached t q path b
      → Reached t p path b
  higher_reaches small {path = path} h pa qa qb =
      let n = nested small pa.run qa.run h pa.down qa.down in
      reached_by (down_append n.down qb.down)
      (exchange path n.between qa.run qb.run (subst (Word path) n.whole (reached_word pa)) (reached_word qa) (reached_word qb))

-- A context's own number; 4,096 where the path does not reach v from the root
pub record OwnAt (t : Table) (path : List ℕ) (v r : ℕ) : Type 0 where
  pub yes : r < 4096 → Reached t 0 path v × (r ≡ v)
  pub no : Reached t 0 path v → r ≡ v

-- r is the highest context of a
pub record TopAt (t : Table) (context target : List ℕ) (a r : ℕ) : Type 0 where
  pub above : r < 4096 → Reached t 0 context r
  pub reached : r < 4096 → Reached t r target a
  pub least : (q : ℕ) → Reached t 0 context q → Reached t q target a → r ≤ q

pub top_at : (t : Table) (context target from : List ℕ) → ParentsSmaller t → 0 < t.size → Tabled (OwnAt t context) from t.size → (a r : ℕ)
    → a < t.size → LeastAt t target from a r → TopAt t context target a r
top_at t context target from small some owns a r h l =
    record {
      above = λ g. (own g).0;
      reached = λ g. (own g).1;
      least = λ q c d. let e = (owns.each q (reached_inside c some)).no c in let f = l.least q d in omega arith;
    }
  where
    own : r < 4096 → Reached t 0 context r × Reached t r target a
    own g =
        let k = l.handed g in
        let e = k.number in
        let o = (owns.each k.node (above_inside small (reached_above k.reached) h)).yes (omega arith) in
        let n : r ≡ k.node = e ∙ o.1 in
        (subst (Reached t 0 context) (sym n) o.0, subst (λ (u : ℕ). Reached t u target a) (sym n) k.reached)

unfoldable pub Tops : Table → List ℕ → List ℕ → List ℕ → Type 0
Tops t context target tops = Tabled (TopAt t context target) tops t.size

pub tops_so : (t : Table) (context target from tops : List ℕ) → ParentsSmaller t → 0 < t.size → Tabled (OwnAt t context) from t.size
    → Least t target from tops → Tops t context target tops
unfolding Tops Least
tops_so t context target from tops small some owns l =
    record { long = l.long; each = λ a h. top_at t context target from small some owns a (get_or tops a 0) h (l.each a h) }

module _ {t : Table} {context target : List ℕ} (small : ParentsSmaller t) (some : 0 < t.size) (few : t.size ≤ 4096) where
  -- a common context is not above the highest one of a, which therefore is one of b too
  top_below : {a b r s q : ℕ} → TopAt t context target a r → TopAt t context target b s → Reached t 0 context q → Reached t q target a
      → Reached t q target b → s ≤ r
  top_below {r = r} x y c d e =
      let h = x.least _ c d in
      let i = reached_inside c some in
      let k : r < 4096 = omega arith in
      y.least r (x.above k) (higher_reaches small h (x.reached k) d e)

  pub tops_equal : {a b r s q : ℕ} → TopAt t context target a r → TopAt t context target b s → Reached t 0 context q → Reached t q target a
      → Reached t q target b → r ≡ s
  tops_equal x y c d e = let h = top_below x y c d e in let g = top_below y x c e d in omega arith

pub tops_at : (t : Table) (context target tops : List ℕ) → Tops t context target tops → (a : ℕ) → a < t.size
    → TopAt t context target a (get_or tops a 0)
unfolding Tops
tops_at t context target tops h a i = h.each a i
