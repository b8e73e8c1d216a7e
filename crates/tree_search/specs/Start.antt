-- Before the search: the highest contexts are the first groups; and all that the search takes.
use Rattle.std.specs.Prelude.{ℕ, ◌+◌, ◌<◌, ◌≤◌, ◌≡◌, List, [], length, get_or, set}
use Rattle.std.proofs.Common.{sym, ◌∙◌, ap, subst, arith, length-set, get_or-set_same, get_or-set_other}
use Rattle.std.proofs.Math.Decide.{ℕ_discrete}
use Rattle.meaning.specs.Paths.{Class}
use Rattle.meaning.specs.Trees.{Table, IsTree, Reached}
use Rattle.meaning.specs.Keys.{Key}
use Rattle.meaning.specs.Records.{key_in}
use Rattle.theory_trees.specs.Below.{tree_smaller}
use Rattle.theory_trees.specs.Reach.{reached_inside}
use Rattle.tree_table.specs.FileTable.{file_table, class_by}
use Rattle.tree_contexts.specs.Tops.{Tops, TopAt, tops_at, tops_equal}
use Rattle.tree_rows.specs.declared.rows.Rows.{Rows}
use Rattle.tree_rows.specs.declared.hung.Hung as lists
use Rattle.tree_rows.specs.Hung.{HungIn, HungAll, none_hung}
use Rattle.tree_pairs.specs.declared.memo.Memo.{Memo}
use Rattle.tree_sorted.specs.declared.sorted.Sorted.{Sorted}
use Rattle.tree_rows.specs.Prepared.{Prepared}
use Rattle.tree_pairs.specs.Marks.{Hanging}
use Rattle.theory_trees.specs.Agreeing.{Agreeing}
use Rattle.tree_sorted.specs.GoodKey.{GoodKey}
use Rattle.tree_sorted.specs.Groups.{Grouped}
use Rattle.tree_sorted.specs.Chains.{TopsStay, SortedBy}

-- the highest contexts are groups
pub grouped_tops : (κ : ℕ → Class) (t : Table) (key : Key) (tops : List ℕ) → IsTree κ t → t.size ≤ 4096
    → Tops t key.context key.target tops → Grouped κ t key tops
grouped_tops κ t key tops tree few highest = record { together = λ q a b g d. same q a b g; some = λ q a b g d. has q a b g }
  where
    inside : (q a : ℕ) → Reached t 0 key.context q → Reached t q key.target a → a < t.size
    inside q a c r = reached_inside r (reached_inside c tree.some)

    same : (q a b : ℕ) → Agreeing κ t key q a b → get_or tops a 0 ≡ get_or tops b 0
    same q a b g =
        tops_equal (tree_smaller tree) tree.some few
        (tops_at t key.context key.target tops highest a (inside q a g.context g.first))
        (tops_at t key.context key.target tops highest b (inside q b g.context g.second)) g.context g.first g.second

    has : (q a b : ℕ) → Agreeing κ t key q a b → get_or tops a 0 < t.size
    has q a b g =
        let l = (tops_at t key.context key.target tops highest a (inside q a g.context g.first)).least q g.context g.first in
        let i = reached_inside g.context tree.some in
        omega arith

-- The contexts of the nodes below v are their groups
pub record SpreadTo (top group : List ℕ) (v : ℕ) : Type 0 where
  pub long : length group ≡ 4096
  pub groups : (u : ℕ) → u < v → get_or group u 0 ≡ get_or top u 0

pub spread_none : (top group : List ℕ) → length group ≡ 4096 → SpreadTo top group 0
spread_none top group l = record { long = l; groups = λ u h. absurd (omega arith) }

pub spread_step : (top group : List ℕ) (v n : ℕ) → v < 4096 → n ≡ get_or top v 0 → SpreadTo top group v → SpreadTo top (set group v n) (v + 1)
spread_step top group v n h e s = record { long = length-set group v n ∙ s.long; groups = λ u g. at u g (ℕ_discrete u v) }
  where
    at : (u : ℕ) → u < v + 1 → Dec (u ≡ v) → get_or (set group v n) u 0 ≡ get_or top u 0
    at u g (yes z) =
        ap (λ (k : ℕ). get_or (set group v n) k 0) z ∙ get_or-set_same group v n 0 (let l = s.long in omega arith) ∙ e
        ∙ ap (λ (k : ℕ). get_or top k 0) (sym z)
    at u g (no m) = get_or-set_other group v u n 0 m ∙ s.groups u (omega arith)

pub spread_all : (top group : List ℕ) (v count : ℕ) → count ≤ v → SpreadTo top group v → SpreadTo top group count
spread_all top group v count h s = record { long = s.long; groups = λ u g. s.groups u (omega arith) }

tops_copied : (t : Table) (context target top new : List ℕ) → length new ≡ 4096 → ((u : ℕ) → u < t.size → get_or new u 0 ≡ get_or top u 0)
    → Tops t context target top → Tops t context target new
unfolding Tops
tops_copied t context target top new l e h = record { long = l; each = λ u i. subst (TopAt t context target u) (sym (e u i)) (h.each u i) }

-- Nothing is remembered below n
pub record ZeroTo (memo : Memo) (n : ℕ) : Type 0 where
  pub long_seen : length memo.seen ≡ 4096
  pub long_marks : length memo.marks ≡ 4096
  pub seen : (v : ℕ) → v < n → get_or memo.seen v 0 ≡ 0
  pub marks : (v : ℕ) → v < n → get_or memo.marks v 0 ≡ 0

pub zero_none : (memo : Memo) → length memo.seen ≡ 4096 → length memo.marks ≡ 4096 → ZeroTo memo 0
zero_none memo l m = record { long_seen = l; long_marks = m; seen = λ v h. absurd (omega arith); marks = λ v h. absurd (omega arith) }

pub zero_step : (memo : Memo) (n : ℕ) → n < 4096 → ZeroTo memo n → ZeroTo (record { seen = set memo.seen n 0; marks = set memo.marks n 0 }) (n + 1)
zero_step memo n h s =
    record {
      long_seen = length-set memo.seen n 0 ∙ s.long_seen;
      long_marks = length-set memo.marks n 0 ∙ s.long_marks;
      seen = λ v g. put memo.seen v g s.long_seen s.seen;
      marks = λ v g. put memo.marks v g s.long_marks s.marks;
    }
  where
    put : (l : List ℕ) (v : ℕ) → v < n + 1 → length l ≡ 4096 → ((v : ℕ) → v < n → get_or l v 0 ≡ 0) → get_or (set l n 0) v 0 ≡ 0
    put l v g k z = go (ℕ_discrete v n)
      where
        go : Dec (v ≡ n) → get_or (set l n 0) v 0 ≡ 0
        go (yes e) = ap (λ (m : ℕ). get_or (set l n 0) m 0) e ∙ get_or-set_same l n 0 0 (omega arith)
        go (no m) = get_or-set_other l n v 0 0 m ∙ z v (omega arith)

pub zero_all : (memo : Memo) (n count : ℕ) → count ≤ n → ZeroTo memo n → ZeroTo memo count
zero_all memo n count h s =
    record { long_seen = s.long_seen; long_marks = s.long_marks; seen = λ v g. s.seen v (omega arith); marks = λ v g. s.marks v (omega arith) }

-- What the search takes
pub record Searchable (classes tree : List ℕ) (rows : Rows) (hung : List lists.Hung) (body : List ℕ) (sorted : Sorted) (pivot : ℕ) : Type 0 where
  pub hanging : Hanging classes tree rows hung body
  pub good : GoodKey body
  pub highest : Tops (file_table tree) (key_in body).context (key_in body).target sorted.top
  pub sorts : SortedBy (class_by classes) (file_table tree) (key_in body) rows.family sorted pivot

pub hanging_so : (classes tree : List ℕ) (rows : Rows) (hung : List lists.Hung) (body : List ℕ) → Prepared classes tree rows → GoodKey body
    → HungAll (file_table tree) (key_in body).paths hung → Hanging classes tree rows hung body
hanging_so classes tree rows hung body p g h =
    record { prepared = p; reads = g.reads; simples = g.simples; few = g.few; lists = h }

module _ (t : Table) (C T context target top : List ℕ) (e : context ≡ C) (f : target ≡ T) (h : Tops t context target top) where
  -- the paths as they stand in the key
  pub of_key : Tops t C T top
  of_key = subst (λ (p : List ℕ). Tops t p T top) e (subst (λ (p : List ℕ). Tops t context p top) f h)

  pub spread_groups : (group : List ℕ) → SpreadTo top group t.size → Tops t C T group
  spread_groups group s = tops_copied t C T top group s.long s.groups of_key

pub tops_stay : (t : Table) (C T : List ℕ) (old new : Sorted) → TopsStay old new → Tops t C T old.top → Tops t C T new.top
tops_stay t C T old new s h = subst (Tops t C T) (sym s.tops) h

-- what the search asks of its tables
module _ {classes tree : List ℕ} {rows : Rows} {hung : List lists.Hung} {body : List ℕ} {sorted : Sorted} {pivot : ℕ}
    (s : Searchable classes tree rows hung body sorted pivot) where
  pub lists_of : HungIn (file_table tree) (get_or (key_in body).paths pivot []) (get_or hung pivot none_hung)
  lists_of = s.hanging.lists.each pivot s.sorts.within

  pub pivot_few : pivot < 4
  pivot_few = let w = s.sorts.within in let f = s.good.few in omega arith

  pub number_inside : (x f : ℕ) → x < (file_table tree).size → f ≡ get_or sorted.number x 0 → f < (file_table tree).size
  number_inside x f h e = let l = s.sorts.numbered.low x h in omega arith

  pub owner_inside : (y b best : ℕ) → (y ≡ 0 → ⊥) → y < (file_table tree).size → b ≡ get_or (get_or hung pivot none_hung).from y 0 → best ≤ 4096 → b < best
      → b < (file_table tree).size
  owner_inside y b best p h e l g =
      let k = (lists_of.above y (omega arith) h (λ z. absurd (omega arith))).0 in
      omega arith
