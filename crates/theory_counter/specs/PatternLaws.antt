-- The pattern of an accepted question: its nodes hang as 01 draws them, what lies below a mark is marked, and along C, T and the key paths
-- it reaches q, t and marks.
use Prim.Native.Nat.{ℕ, zero, suc, ◌+◌, ◌-◌, ◌≤◌, ◌<◌}
use Rattle.std.specs.Prelude.{◌≡◌, Bool, true, false, cond, leb, eqb, get_or}
use Rattle.std.proofs.Math.Path.{refl, ap, ap₂, subst}
use Rattle.std.proofs.Common.{sym, ◌∙◌, ⊎_elim, true≢false, leb→le, le→leb, eqb→eq}
use mathlib.Core.List.{List, [], ◌∷◌, ◌++◌, map, Memᴰ}
use native.Mathlib.Omega.{arith}
use Rattle.std.proofs.Math.Dec.{T, eqb_refl}
use Rattle.std.proofs.Math.ListN.{length, length-append}
use Rattle.meaning.specs.Limits.{KeyLimits}
use Rattle.meaning.specs.Lists.{Each, any, is_empty}
use Rattle.meaning.specs.Lists.Each.{end, also}
use Rattle.meaning.specs.Paths.{Class, Label, is_element, class_of}
use Rattle.meaning.specs.Refusals.{is_symbol}
use Rattle.meaning.specs.Trees.{Node, no_node, table_of, Child}
use Rattle.meaning.specs.Keys.{Key}
use Rattle.meaning.specs.Pattern.{drawn, run, branches, t_of, pattern_nodes, pattern, ends, marked}
use Rattle.theory_lists.specs.Bools.{or_cases, or_left, or_right, every_append}
use Rattle.theory_paths.specs.Valid.{valid_before}
use Rattle.theory_paths.specs.Good.{GoodLabels, GoodKey, class_root, context_symbols, target_symbols, key_path_symbols, valid_chain, valid_whole, valid_key_path}
use Rattle.theory_counter.specs.Crossing.{Marks}
use Rattle.theory_pattern.specs.Numbered.{Numbered, next, Is, numbered_append, numbered_left, numbered_right, numbered_at, numbered_map, numbered_whole}
use Rattle.theory_pattern.specs.Branches.{total, last, branches_length, last_chain, last_end, run_down, Hangs, chain_hangs, branches_hang, longs, Bare, ends_after, ends_bare}
use Rattle.theory_pattern.specs.Drawing.{drawn_member, Known, run_known, branches_known, Inside, IsElementAt, run_inside, last_element, branches_inside}
use Rattle.theory_pattern.specs.Numbers.{run_length}

-- The nodes behind the root
module _ (asked : Key) where
  unfoldable pub chain : List Node
  chain = run 0 1 (asked.context ++ asked.target)

  unfoldable pub twigs : List Node
  twigs = branches (t_of asked) (suc (t_of asked)) asked.paths

  pub chain_length : length (run 0 1 (asked.context ++ asked.target)) ≡ t_of asked
  unfolding t_of
  chain_length = run_length 0 1 (asked.context ++ asked.target) ∙ length-append asked.context asked.target

  seam : suc (t_of asked) ≡ 1 + length chain
  unfolding chain
  seam = let e = chain_length in omega arith

  pub pattern_length : length (pattern_nodes asked) ≡ suc (t_of asked + total asked.paths)
  unfolding pattern_nodes
  pattern_length =
      ap suc
      (length-append (run 0 1 (asked.context ++ asked.target)) (branches (t_of asked) (suc (t_of asked)) asked.paths)
      ∙ ap₂ ◌+◌ chain_length (branches_length (t_of asked) (suc (t_of asked)) asked.paths))

  -- the trunk's nodes are nodes of the pattern
  pub trunk_inside : (u : ℕ) → u < t_of asked → u < length (pattern_nodes asked)
  trunk_inside u h = let l = pattern_length in omega arith

  -- a law of the nodes behind the root, read at a number
  behind : {Q : ℕ → Node → Type 0} → Numbered Q 1 (chain ++ twigs) → (x : ℕ) → 0 < x → x < length (pattern_nodes asked)
      → Q x (get_or (pattern_nodes asked) x no_node)
  unfolding pattern_nodes chain twigs
  behind l zero h k = absurd (omega arith)
  behind l (suc x) h k = numbered_at l x (suc x) (omega arith) (omega arith)

  joined : {Q : ℕ → Node → Type 0} → Numbered Q 1 chain → Numbered Q (suc (t_of asked)) twigs → Numbered Q 1 (chain ++ twigs)
  joined l r = numbered_append (suc (t_of asked)) seam l r

  -- each part stands in the whole where it should
  whole_parts : Numbered (Is (pattern_nodes asked)) 1 (chain ++ twigs)
  unfolding pattern_nodes chain twigs
  whole_parts = go (numbered_whole (pattern_nodes asked))
    where
      go : {x : Node} {xs : List Node} → Numbered (Is (pattern_nodes asked)) 0 (x ∷ xs) → Numbered (Is (pattern_nodes asked)) 1 xs
      go (next q l) = l

  pub chain_here : Numbered (Is (pattern_nodes asked)) 1 chain
  chain_here = numbered_left chain twigs whole_parts

  pub twigs_here : Numbered (Is (pattern_nodes asked)) (suc (t_of asked)) twigs
  twigs_here = numbered_right (suc (t_of asked)) chain twigs seam whole_parts

  pub pattern_hangs : (x : ℕ) → 0 < x → x < length (pattern_nodes asked) → Hangs (t_of asked) x (get_or (pattern_nodes asked) x no_node)
  unfolding chain twigs
  pattern_hangs =
      behind
      (joined (chain_hangs (t_of asked) 0 1 (asked.context ++ asked.target) refl)
      (branches_hang (t_of asked) (suc (t_of asked)) asked.paths (omega arith)))

module _ (labels : List Label) (good : GoodLabels labels) (limits : KeyLimits) (asked : Key) (g : GoodKey labels limits asked) where
  pub pattern_known : (x : ℕ) → 0 < x → x < length (pattern_nodes asked) → Known labels (get_or (pattern_nodes asked) x no_node).label
  unfolding chain twigs
  pattern_known x h k =
      behind asked
      (joined asked
      (run_known labels good 0 1 (asked.context ++ asked.target)
      (every_append (is_symbol labels) asked.context asked.target (context_symbols labels limits asked g) (target_symbols labels limits asked g)))
      (branches_known labels good (t_of asked) (suc (t_of asked)) asked.paths (key_path_symbols labels limits asked g)))
      x h k

  root_element : IsElementAt labels (pattern_nodes asked) 0
  unfolding IsElementAt pattern_nodes is_element
  root_element = subst (λ (c : Class). T (is_element c)) (sym (class_root labels good)) tt

  -- t is an element where a key path goes on below it
  t_element : (P : List ℕ) → Memᴰ P asked.paths → 0 < length P → IsElementAt labels (pattern_nodes asked) (t_of asked)
  unfolding t_of chain
  t_element [] m h = absurd (omega arith)
  t_element (s ∷ P) m h =
      subst (λ (x : ℕ). IsElementAt labels (pattern_nodes asked) x)
      (last_chain 0 1 (asked.context ++ asked.target) refl ∙ ap (λ (k : ℕ). 0 + k) (length-append asked.context asked.target)
      ∙ zeroes (length asked.context + length asked.target))
      (last_element labels good (pattern_nodes asked) 0 1 (asked.context ++ asked.target) (chain_here asked) root_element
      (valid_before (class_of labels) (asked.context ++ asked.target) s P (valid_whole labels limits asked g (s ∷ P) m)))
    where
      zeroes : (n : ℕ) → 0 + n ≡ n
      zeroes n = omega arith

  pub pattern_inside : (x : ℕ) → 0 < x → x < length (pattern_nodes asked)
      → Inside labels (pattern_nodes asked) x (get_or (pattern_nodes asked) x no_node)
  unfolding chain twigs
  pattern_inside x h k =
      behind asked
      (joined asked
      (run_inside labels good (pattern_nodes asked) 0 1 (asked.context ++ asked.target) (chain_here asked) (λ l. root_element)
      (valid_chain labels limits asked g))
      (branches_inside labels good (pattern_nodes asked) (t_of asked) (suc (t_of asked)) asked.paths (twigs_here asked) t_element
      (valid_key_path labels limits asked g)))
      x h k

-- The marks
pub longs_of : (S : List (List ℕ)) → any is_empty S ≡ false → longs S
unfolding any is_empty longs
longs_of [] e = tt
longs_of ([] ∷ S) e = absurd (true≢false e)
longs_of ((s ∷ p) ∷ S) e = (omega arith, longs_of S e)

ends_least : (t n y : ℕ) (S : List (List ℕ)) → t < n → T (any (eqb y) (ends t n S)) → t ≤ y
unfolding any ends is_empty
ends_least t n y [] h k = absurd k
ends_least t n y ([] ∷ S) h k =
    ⊎_elim (λ q. let e = eqb→eq y t q in omega arith) (λ q. ends_least t (n + 0) y S (omega arith) q)
    (or_cases (eqb y t) (any (eqb y) (ends t (n + 0) S)) k)
ends_least t n y ((s ∷ p) ∷ S) h k =
    ⊎_elim (λ q. let e = eqb→eq y (n + suc (length p) - 1) q in omega arith)
    (λ q. ends_least t (n + suc (length p)) y S (omega arith) q)
    (or_cases (eqb y (n + suc (length p) - 1)) (any (eqb y) (ends t (n + suc (length p)) S)) k)

pub branches_marks : (whole : List Node) (mark : ℕ → Bool) (t n : ℕ) (S : List (List ℕ)) → Numbered (Is whole) n (branches t n S) → 0 < n
    → n + total S ≤ length whole → ((e : ℕ) → T (any (eqb e) (ends t n S)) → T (mark e)) → Each (Marks (table_of whole) mark t) S
unfolding branches total ends any
branches_marks whole mark t n [] l pos fits h = end
branches_marks whole mark t n (p ∷ S) l pos fits h =
    let e : n + length p ≡ n + length (run t n p) = ap (λ (k : ℕ). n + k) (sym (run_length t n p)) in
    let z : ℕ = last t n p in
    let here : T (eqb z (cond (is_empty p) t (n + length p - 1))) = subst (λ (k : ℕ). T (eqb z k)) (last_end t n p) (eqb_refl z) in
    also
    (record {
      node = z;
      is_marked = h z (or_left (eqb z (cond (is_empty p) t (n + length p - 1))) (any (eqb z) (ends t (n + length p) S)) here);
      reached =
          record {
            run = map drawn p;
            down = run_down whole t n p (numbered_left (run t n p) (branches t (n + length p) S) l) pos (omega arith);
            word = drawn_member p;
          };
    })
    (branches_marks whole mark t (n + length p) S (numbered_right (n + length p) (run t n p) (branches t (n + length p) S) e l) (omega arith)
    (omega arith)
    (λ k q. h k (or_right (eqb k (cond (is_empty p) t (n + length p - 1))) (any (eqb k) (ends t (n + length p) S)) q)))

module _ (asked : Key) where
  -- a mark, by cases: whether S holds the empty path
  pub end_marked : (e : ℕ) → T (any (eqb e) (ends (t_of asked) (suc (t_of asked)) asked.paths)) → T (marked asked e)
  unfolding marked
  end_marked e h = go (any is_empty asked.paths)
    where
      t : ℕ
      t = t_of asked

      go : (b : Bool) → T (cond b (leb t e) (any (eqb e) (ends t (suc t) asked.paths)))
      go true = le→leb t e (ends_least t (suc t) e asked.paths (omega arith) h)
      go false = h

  no_end_above : any is_empty asked.paths ≡ false → (x : ℕ) → 0 < x → x < length (pattern_nodes asked)
      → Bare (t_of asked) (suc (t_of asked)) asked.paths x (get_or (pattern_nodes asked) x no_node)
  unfolding chain twigs Bare
  no_end_above e =
      behind asked
      (joined asked
      (numbered_map
      (λ m x a b (c : Hangs (t_of asked) m x) q.
      let r = ends_after (t_of asked) (suc (t_of asked)) x.parent asked.paths (longs_of asked.paths e) q in
      let l = chain_length asked in
      let h = c.above in
      omega arith)
      (chain_hangs (t_of asked) 0 1 (asked.context ++ asked.target) refl))
      (ends_bare (t_of asked) (suc (t_of asked)) asked.paths (omega arith) (longs_of asked.paths e)))

  -- "if S holds the empty path, t and everything below it": what lies below a mark is marked
  pub marks_closed : (z x : ℕ) → T (marked asked z) → Child (pattern asked) z x → T (marked asked x)
  unfolding marked pattern table_of Bare
  marks_closed z x h c = go (any is_empty asked.paths) refl h
    where
      t : ℕ
      t = t_of asked

      go : (b : Bool) → any is_empty asked.paths ≡ b → T (cond b (leb t z) (any (eqb z) (ends t (suc t) asked.paths)))
          → T (cond b (leb t x) (any (eqb x) (ends t (suc t) asked.paths)))
      go true e m =
          let l = leb→le t z m in
          let a = (pattern_hangs asked x c.not_root c.inside).above in
          let q = c.below in
          le→leb t x (omega arith)
      go false e m =
          absurd
          (no_end_above e x c.not_root c.inside
          (subst (λ (k : ℕ). T (any (eqb k) (ends t (suc t) asked.paths))) (sym c.below) m))
