-- The profile's keys in their records, and the first that the tree breaks: one law for each return.
use Rattle.std.specs.Prelude.{ℕ, ◌+◌, ◌≤◌, ◌<◌, ◌≡◌, List, Option, None, Some, MatchOption}
use Rattle.std.proofs.Common.{sym, ◌∙◌, arith}
use Rattle.std.proofs.Math.Path.{ap, subst}
use Rattle.std.proofs.Math.Decide.{ℕ_discrete}
use Rattle.meaning.specs.Paths.{Class}
use Rattle.meaning.specs.Trees.{Table}
use Rattle.meaning.specs.Keys.{Key, Breaks}
use Rattle.meaning.specs.Records.{record_body, key_in}
use Rattle.meaning.specs.Operations.{records_from}
use Rattle.theory_trees.specs.Witness.{FirstTargets}
use Rattle.op_answers.specs.declared.Witness.{Witness}
use Rattle.tree_witness.specs.Pairs.{FirstShown}
use Rattle.tree_table.specs.FileTable.{file_table, class_by}
use Rattle.tree_rows.specs.Prepared.{Prepared}
use Rattle.tree_rows.specs.Hung.{HungAll}
use Rattle.tree_rows.specs.declared.rows.Rows.{Rows}
use Rattle.tree_rows.specs.declared.hung.Hung as lists
use Rattle.tree_pairs.specs.Marks.{Hanging}
use Rattle.tree_sorted.specs.GoodKey.{GoodKey}
use Rattle.tree_search.specs.Best.{FirstBy}
use Rattle.tree_search.specs.declared.search.BrokenAt.{BrokenAt}
use Rattle.tree_search.specs.Start.{hanging_so}
use Rattle.op_tree_keys.specs.declared.Lowest.{Lowest}

-- the body of key n, where the keys begin
unfoldable pub key_body_at : List ℕ → ℕ → List ℕ
key_body_at part n = record_body (records_from n part)

pub record KeyBodies (part : List ℕ) (keys : ℕ) : Type 0 where
  pub each : (n : ℕ) → n < keys → GoodKey (key_body_at part n)

-- The tree keeps the first n keys
pub record KeptBelow (κ : ℕ → Class) (t : Table) (part : List ℕ) (n : ℕ) : Type 0 where
  pub each : (m : ℕ) → m < n → Breaks κ t (key_in (key_body_at part m)) → ⊥

-- What testing a key finds is right: the first witness, or that the tree keeps the key
abbrev pub KeyTested : (ℕ → Class) → Table → Key → Option Witness → Type 0
KeyTested κ t key found = MatchOption found (Breaks κ t key → ⊥) (λ w. FirstShown κ t key w)

module _ {κ : ℕ → Class} {t : Table} {key : Key} where
  pub tested_shows : (w : Witness) → FirstShown κ t key w → KeyTested κ t key (Some w)
  tested_shows w first = first

  pub tested_first : {found : Option BrokenAt} {f : BrokenAt} → FirstBy κ t key found → found ≡ Some f → FirstTargets κ t key f.context f.first f.second
  tested_first by e = subst (FirstBy κ t key) e by

  pub tested_keeps : {found : Option BrokenAt} → FirstBy κ t key found → found ≡ None → KeyTested κ t key None
  tested_keeps by e = subst (FirstBy κ t key) e by

  pub tested_broken : {r : Option Witness} {w : Witness} → KeyTested κ t key r → r ≡ Some w → FirstShown κ t key w
  tested_broken k e = subst (KeyTested κ t key) e k

  pub tested_kept : {r : Option Witness} → KeyTested κ t key r → r ≡ None → Breaks κ t key → ⊥
  tested_kept k e = subst (KeyTested κ t key) e k

-- A key that the tree breaks, and none before it: the first context and targets, and the lists of its key paths
pub record LowestAt (κ : ℕ → Class) (t : Table) (part : List ℕ) (keys : ℕ) (hung : List lists.Hung) (r q a b : ℕ) : Type 0 where
  pub below : KeptBelow κ t part r
  pub within : r < keys
  pub here : FirstTargets κ t (key_in (key_body_at part r)) q a b
  pub lists : HungAll t (key_in (key_body_at part r)).paths hung

-- The lowest number of a key that the tree breaks; or it keeps all the keys
abbrev pub LowestBroken : (ℕ → Class) → Table → List ℕ → ℕ → List lists.Hung → Option Lowest → Type 0
LowestBroken κ t part keys hung found =
    MatchOption found (KeptBelow κ t part keys) (λ l. LowestAt κ t part keys hung l.key l.context l.first l.second)

pub kept_none : (κ : ℕ → Class) (t : Table) (part : List ℕ) → KeptBelow κ t part 0
kept_none κ t part = record { each = λ m h. absurd (omega arith) }

pub kept_all : {κ : ℕ → Class} {t : Table} {part : List ℕ} {n keys : ℕ} → KeptBelow κ t part n → keys ≤ n → KeptBelow κ t part keys
kept_all k h = record { each = λ m l. k.each m (omega arith) }

-- A key that the tree breaks, and what its witness is made of
pub record KeyFound (classes tree : List ℕ) (rows : Rows) (hung : List lists.Hung) (part : List ℕ) (n q a b : ℕ) : Type 0 where
  pub prepared : Prepared classes tree rows
  pub good : GoodKey (key_body_at part n)
  pub lists : HungAll (file_table tree) (key_in (key_body_at part n)).paths hung
  pub targets : FirstTargets (class_by classes) (file_table tree) (key_in (key_body_at part n)) q a b

pub key_found : {classes tree : List ℕ} {rows : Rows} {hung : List lists.Hung} {part : List ℕ} {keys r q a b : ℕ} → Prepared classes tree rows
    → KeyBodies part keys → LowestAt (class_by classes) (file_table tree) part keys hung r q a b → KeyFound classes tree rows hung part r q a b
key_found p k l = record { prepared = p; good = k.each _ l.within; lists = l.lists; targets = l.here }

module _ (part : List ℕ) (n : ℕ) {rest : List ℕ} (is_rest : rest ≡ records_from n part) {body : List ℕ} (is_body : body ≡ record_body rest) where
  body_is : body ≡ key_body_at part n
  unfolding key_body_at
  body_is = is_body ∙ ap record_body is_rest

  pub good_body : {keys : ℕ} → KeyBodies part keys → n < keys → GoodKey body
  good_body h l = subst GoodKey (sym body_is) (h.each n l)

  module _ {κ : ℕ → Class} {t : Table} where
    pub found_lowest : {q a b : ℕ} {keys : ℕ} {hung : List lists.Hung} → FirstTargets κ t (key_in body) q a b → HungAll t (key_in body).paths hung
        → KeptBelow κ t part n → n < keys → LowestAt κ t part keys hung n q a b
    found_lowest {q} {a} {b} {hung = hung} first lists k h =
        record {
          below = k;
          within = h;
          here = subst (λ (c : List ℕ). FirstTargets κ t (key_in c) q a b) body_is first;
          lists = subst (λ (c : List ℕ). HungAll t (key_in c).paths hung) body_is lists;
        }

    pub kept_more : (Breaks κ t (key_in body) → ⊥) → KeptBelow κ t part n → KeptBelow κ t part (n + 1)
    kept_more keeps k = record { each = λ m h. go m h (ℕ_discrete m n) }
      where
        go : (m : ℕ) → m < n + 1 → Dec (m ≡ n) → Breaks κ t (key_in (key_body_at part m)) → ⊥
        go m h (yes z) w = keeps (subst (λ (c : List ℕ). Breaks κ t (key_in c)) (ap (key_body_at part) z ∙ sym body_is) w)
        go m h (no z) w = k.each m (omega arith) w

  module _ {classes tree : List ℕ} {rows : Rows} {hung : List lists.Hung} {q a b : ℕ} (found : KeyFound classes tree rows hung part n q a b) where
    pub found_hanging : Hanging classes tree rows hung body
    found_hanging =
        hanging_so classes tree rows hung body found.prepared (subst GoodKey (sym body_is) found.good)
        (subst (λ (c : List ℕ). HungAll (file_table tree) (key_in c).paths hung) (sym body_is) found.lists)

    pub found_targets : FirstTargets (class_by classes) (file_table tree) (key_in body) q a b
    found_targets = subst (λ (c : List ℕ). FirstTargets (class_by classes) (file_table tree) (key_in c) q a b) (sym body_is) found.targets

    pub found_witness : {w : Witness} → FirstShown (class_by classes) (file_table tree) (key_in body) w
        → FirstShown (class_by classes) (file_table tree) (key_in (key_body_at part n)) w
    found_witness {w} shown = subst (λ (c : List ℕ). FirstShown (class_by classes) (file_table tree) (key_in c) w) body_is shown
