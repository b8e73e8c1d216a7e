-- ARGUMENT 4: "the labels from spot (j, i) down to (j, k) are line j [i..k]". Every node of the pattern is a spot, the spot's depth is fixed by
-- the node, in a branch its branch too, and a run of labels down to a spot is a part of its line.
use Prim.Native.Nat.{ℕ, zero, suc, ◌+◌, ◌-◌, ◌≤◌, ◌<◌}
use Rattle.std.specs.Prelude.{◌≡◌, refl, ◌⊎◌, Bool, cond, length, get_or, take, drop}
use Rattle.std.proofs.Math.Path.{sym, ap, ap₂, subst}
use Rattle.std.proofs.Common.{◌∙◌, inl, inr}
use mathlib.Core.List.{List, [], ◌∷◌}
use native.Mathlib.Omega.{arith}
use Rattle.std.proofs.Math.Dec.{eqb-suc-zero}
use Rattle.std.proofs.Math.Seq.{slice_empty, slice-cons}
use Rattle.meaning.specs.Trees.{Node, table_of, Child, Down, here, step}
use Rattle.meaning.specs.Keys.{Key}
use Rattle.meaning.specs.Pattern.{drawn, pattern, t_of}
use Rattle.theory_paths.specs.Inclusion.{fill, fill_by}
use Rattle.theory_lists.specs.Logic.{less_or}
use Rattle.theory_pattern.specs.Spots.{branch_of, row_of, part}
use Rattle.theory_pattern.specs.Rows.{row_length}
use Rattle.theory_pattern.specs.Numbers.{offset, offset_next, spot_node, spot_chain, spot_branch, node, node_of, spot_node_lem, spot_inside, spot_positive, pattern_size, in_branch}

-- (j, k) is a spot
pub record IsSpot (asked : Key) (j k : ℕ) : Type 0 where
  pub is_branch : j < length asked.paths
  pub on_row : k ≤ length (row_of asked j)

-- the spot that a node is
pub record Place (asked : Key) (x : ℕ) : Type 0 where
  pub branch : ℕ
  pub depth : ℕ
  pub spot : IsSpot asked branch depth
  pub place : x ≡ spot_node asked branch depth

module _ (asked : Key) where
  pub spot_label : (j k : ℕ) → IsSpot asked j (suc k) → (pattern asked).label (spot_node asked j (suc k)) ≡ drawn (get_or (row_of asked j) k 0)
  unfolding pattern table_of node node_of
  spot_label j k s = ap (λ (n : Node). n.label) (spot_node_lem asked j k s.is_branch s.on_row)

  pub spot_parent : (j k : ℕ) → IsSpot asked j (suc k) → (pattern asked).parent (spot_node asked j (suc k)) ≡ spot_node asked j k
  unfolding pattern table_of node node_of
  spot_parent j k s = ap (λ (n : Node). n.parent) (spot_node_lem asked j k s.is_branch s.on_row)

  pub spot_child : (j k : ℕ) → IsSpot asked j (suc k) → Child (pattern asked) (spot_node asked j k) (spot_node asked j (suc k))
  spot_child j k s =
      record { not_root = spot_positive asked j k; inside = spot_inside asked j (suc k) s.is_branch s.on_row; below = spot_parent j k s }

  pub spot_above : (j i k : ℕ) → i ≤ k → IsSpot asked j k → IsSpot asked j i
  spot_above j i k l s = record { is_branch = s.is_branch; on_row = omega (arith, s.on_row) }

  -- every node is a spot
  pub place_of : 0 < length asked.paths → (x : ℕ) → x < (pattern asked).size → Place asked x
  unfolding branch_of
  place_of m x h = go (less_or (t_of asked) x)
    where
      go : (t_of asked < x) ⊎ (x ≤ t_of asked) → Place asked x
      go (inl l) =
          let r = in_branch asked.paths (x - suc (t_of asked)) (omega (arith, pattern_size asked)) in
          record {
            branch = r.branch;
            depth = suc (t_of asked + r.rest);
            spot = record { is_branch = r.is_branch; on_row = omega (arith, row_length asked r.branch, r.inside) };
            place = (let z : x ≡ suc (t_of asked + r.rest) + offset asked.paths r.branch = omega (arith, r.place) in z)
                ∙ sym (spot_branch asked r.branch (suc (t_of asked + r.rest)) (omega arith));
          }
      go (inr l) =
          record { branch = 0; depth = x; spot = record { is_branch = m; on_row = omega (arith, row_length asked 0) }; place = sym (spot_chain asked 0 x l) }

  -- a node is one spot
  pub spot_once : (i j k l : ℕ) → IsSpot asked i k → IsSpot asked j l → spot_node asked i k ≡ spot_node asked j l → (k ≡ l) × (t_of asked < k → i ≡ j)
  unfolding branch_of
  spot_once i j k l s t e = go (less_or (t_of asked) k) (less_or (t_of asked) l)
    where
      n : ℕ
      n = t_of asked

      off : ℕ → ℕ
      off b = offset asked.paths b

      same : n < k → n < l → k + off i ≡ l + off j → i ≡ j
      same a b q = at (less_or i j) (less_or j i)
        where
          at : (i < j) ⊎ (j ≤ i) → (j < i) ⊎ (i ≤ j) → i ≡ j
          at (inl u) v = absurd (omega (arith, offset_next asked.paths i j u t.is_branch, s.on_row, row_length asked i))
          at (inr u) (inl v) = absurd (omega (arith, offset_next asked.paths j i v s.is_branch, t.on_row, row_length asked j))
          at (inr u) (inr v) = omega arith

      go : (n < k) ⊎ (k ≤ n) → (n < l) ⊎ (l ≤ n) → (k ≡ l) × (n < k → i ≡ j)
      go (inl a) (inl b) =
          let q : k + off i ≡ l + off j = sym (spot_branch asked i k a) ∙ e ∙ spot_branch asked j l b in
          let r = same a b q in
          let o : off i ≡ off j = ap off r in
          (omega arith, λ _. r)
      go (inl a) (inr b) = let q : k + off i ≡ l = sym (spot_branch asked i k a) ∙ e ∙ spot_chain asked j l b in absurd (omega arith)
      go (inr a) (inl b) = let q : k ≡ l + off j = sym (spot_chain asked i k a) ∙ e ∙ spot_branch asked j l b in absurd (omega arith)
      go (inr a) (inr b) = (sym (spot_chain asked i k a) ∙ e ∙ spot_chain asked j l b, λ c. absurd (omega arith))

  -- two lines have one node at a depth down to t, and where the branch is the same
  pub spot_shared : (i j k : ℕ) → (t_of asked < k → i ≡ j) → spot_node asked i k ≡ spot_node asked j k
  spot_shared i j k f = go (less_or (t_of asked) k)
    where
      go : (t_of asked < k) ⊎ (k ≤ t_of asked) → spot_node asked i k ≡ spot_node asked j k
      go (inl h) = ap (λ b. spot_node asked b k) (f h)
      go (inr h) = spot_chain asked i k h ∙ sym (spot_chain asked j k h)

-- ---- runs of labels

pub fill_cons : (s : ℕ) (P : List ℕ) → fill (s ∷ P) ≡ drawn s ∷ fill P
unfolding fill_by drawn
fill_cons zero P = refl
fill_cons (suc a) P = ap (λ (b : Bool). cond b 201 (suc a) ∷ fill P) (sym (eqb-suc-zero a))

part_empty : (k l : ℕ) (line : List ℕ) → k ≡ l → part k l line ≡ []
unfolding part
part_empty k l line e = subst (λ m. drop k (take m line) ≡ []) e (slice_empty k line)

part_cons : (i k : ℕ) (line : List ℕ) → i < k → k ≤ length line → fill (part i k line) ≡ drawn (get_or line i 0) ∷ fill (part (suc i) k line)
unfolding part
part_cons i k line h l = ap fill (slice-cons i k line 0 h l) ∙ fill_cons (get_or line i 0) (drop (suc i) (take k line))

-- where a run that ends at a spot begins
pub record Begins (asked : Key) (j k v : ℕ) (run : List ℕ) : Type 0 where
  pub top : ℕ
  pub above : top ≤ k
  pub place : v ≡ spot_node asked j top
  pub reads : run ≡ fill (part top k (row_of asked j))

module _ (asked : Key) where
  pub spot_down : (d i j k : ℕ) → k ≡ i + d → IsSpot asked j k → Down (pattern asked) (spot_node asked j i) (fill (part i k (row_of asked j))) (spot_node asked j k)
  unfolding fill_by
  spot_down zero i j k e s =
      subst (λ r. Down (pattern asked) (spot_node asked j i) r (spot_node asked j k))
      (ap fill (sym (part_empty i k (row_of asked j) (let z : i ≡ k = omega arith in z))))
      (here (ap (spot_node asked j) (let z : i ≡ k = omega arith in z)))
  spot_down (suc d) i j k e s =
      subst (λ r. Down (pattern asked) (spot_node asked j i) r (spot_node asked j k)) (sym (part_cons i k (row_of asked j) (omega arith) s.on_row))
      (step (spot_node asked j (suc i)) (spot_child asked j i (spot_above asked j (suc i) k (omega arith) s))
      (spot_label asked j i (spot_above asked j (suc i) k (omega arith) s)) (spot_down d (suc i) j k (omega arith) s))

  pub down_spot : (j k : ℕ) → IsSpot asked j k → {v w : ℕ} {run : List ℕ} → Down (pattern asked) v run w → w ≡ spot_node asked j k → Begins asked j k v run
  unfolding fill_by
  down_spot j k s (here p) e =
      record { top = k; above = omega arith; place = p ∙ e; reads = ap fill (sym (part_empty k k (row_of asked j) refl)) }
  down_spot j k s (step {v} {l} {ls} x c q d) e = go (down_spot j k s d e)
    where
      at : (i : ℕ) → i ≤ k → x ≡ spot_node asked j i → ls ≡ fill (part i k (row_of asked j)) → Begins asked j k v (l ∷ ls)
      at zero b on reads = absurd (let z : x ≡ 0 = on ∙ spot_chain asked j 0 (omega arith) in omega (arith, c.not_root))
      at (suc i) b on reads =
          let t = spot_above asked j (suc i) k b s in
          record {
            top = i;
            above = omega arith;
            place = sym c.below ∙ ap (pattern asked).parent on ∙ spot_parent asked j i t;
            reads = ap₂ {C = List ℕ} (λ a r. a ∷ r) (sym q ∙ ap (pattern asked).label on ∙ spot_label asked j i t) reads
                ∙ sym (part_cons i k (row_of asked j) b s.on_row);
          }

      go : Begins asked j k x ls → Begins asked j k v (l ∷ ls)
      go r = at r.top r.above r.place r.reads

  -- a run stays inside the table
  pub down_inside : {v w : ℕ} {run : List ℕ} → Down (pattern asked) v run w → v < (pattern asked).size → w < (pattern asked).size
  down_inside (here p) h = subst (λ m. m < (pattern asked).size) p h
  down_inside (step x c q d) h = down_inside d c.inside
