-- Of each key whether the tree breaks it.
use Rattle.std.specs.Prelude.{ℕ, ◌+◌, ◌<◌, ◌≤◌, ◌≡◌, refl, Bool, true, false, Option, None, Some, List, length, get_or, set, replicate, is_some}
use Rattle.std.proofs.Common.{sym, ◌∙◌, ap, subst, arith, length-set, get_or-set_same, get_or-set_other}
use Rattle.std.proofs.Math.Decide.{ℕ_discrete}
use Rattle.meaning.specs.Paths.{Class}
use Rattle.meaning.specs.Trees.{Table}
use Rattle.meaning.specs.Keys.{Key, Breaks}
use Rattle.meaning.specs.Records.{record_body, key_in}
use Rattle.meaning.specs.Operations.{records_from}
use Rattle.theory_trees.specs.Witness.{FirstTargets}
use Rattle.tree_search.specs.Best.{FirstBy}
use Rattle.tree_search.specs.declared.search.BrokenAt.{BrokenAt}
use Rattle.op_tree_keys.specs.ProfileKeys.{key_body_at}

pub record Mark (κ : ℕ → Class) (t : Table) (key : Key) (breaks : Bool) : Type 0 where
  pub yes : breaks ≡ true → Breaks κ t key
  pub no : breaks ≡ false → Breaks κ t key → ⊥

-- the first n keys are marked
pub record Marked (κ : ℕ → Class) (t : Table) (part : List ℕ) (n : ℕ) (breaks : List Bool) : Type 0 where
  pub each : (m : ℕ) → m < n → Mark κ t (key_in (key_body_at part m)) (get_or breaks m false)
  pub long : length breaks ≡ 64

pub marked_none : (κ : ℕ → Class) (t : Table) (part : List ℕ) → Marked κ t part 0 (replicate 64 false)
marked_none κ t part = record { each = λ m h. absurd (omega arith); long = refl }

targets_break : {κ : ℕ → Class} {t : Table} {key : Key} {q a b : ℕ} → FirstTargets κ t key q a b → Breaks κ t key
targets_break {q = q} {a} {b} f =
    let h = f.ordered in
    record {
      q = q;
      a = a;
      b = b;
      context = f.agreeing.context;
      first = f.agreeing.first;
      second = f.agreeing.second;
      different = λ e. omega arith;
      pairs = f.agreeing.pairs;
    }

pub marked_more : {κ : ℕ → Class} {t : Table} {part : List ℕ} {n : ℕ} {breaks : List Bool} → Marked κ t part n breaks → n < 64 → {rest : List ℕ} → rest ≡ records_from n part
    → {body : List ℕ} → body ≡ record_body rest → (found : Option BrokenAt) → FirstBy κ t (key_in body) found → {here : Bool} → here ≡ is_some found
    → Marked κ t part (n + 1) (set breaks n here)
unfolding key_body_at
marked_more {κ} {t} {part} {n} {breaks} w few is_rest {body} is_body found first {here} said =
    record { each = λ m h. go m h (ℕ_discrete m n); long = length-set breaks n here ∙ w.long }
  where
    body_is : body ≡ record_body (records_from n part)
    body_is = is_body ∙ ap record_body is_rest

    mark : (found : Option BrokenAt) → FirstBy κ t (key_in body) found → Mark κ t (key_in body) (is_some found)
    mark None first = record { yes = λ e. cc; no = λ e. first }
    mark (Some f) first = record { yes = λ e. targets_break first; no = λ e. cc }

    own : Mark κ t (key_in body) here
    own = subst (Mark κ t (key_in body)) (sym said) (mark found first)

    go : (m : ℕ) → m < n + 1 → Dec (m ≡ n) → Mark κ t (key_in (key_body_at part m)) (get_or (set breaks n here) m false)
    go m h (yes z) =
        subst (λ (k : ℕ). Mark κ t (key_in (record_body (records_from k part))) (get_or (set breaks n here) k false)) (sym z)
        (subst (Mark κ t (key_in (record_body (records_from n part)))) (sym (get_or-set_same breaks n here false (let l = w.long in omega arith)))
        (subst (λ (c : List ℕ). Mark κ t (key_in c) here) body_is own))
    go m h (no z) = subst (Mark κ t (key_in (record_body (records_from m part)))) (sym (get_or-set_other breaks n m here false z)) (w.each m (omega arith))

pub marked_all : {κ : ℕ → Class} {t : Table} {part : List ℕ} {n keys : ℕ} {breaks : List Bool} → Marked κ t part n breaks → keys ≤ n → Marked κ t part keys breaks
marked_all w h = record { each = λ m k. w.each m (omega arith); long = w.long }
