-- What the tests of rules ask of key bodies, and sets as bytes.
use Rattle.std.specs.Prelude.{ℕ, ◌≤◌, ◌≡◌, Bool, true, T, length, ◌==◌}
use Rattle.std.specs.Cmp.Lexicographic.{pointwise}
use Rattle.read_record.specs.Library.{same_list}
use Rattle.std.proofs.Common.{sym, ap, ap₂, ◌∙◌, arith}
use mathlib.Core.List.{List, [], ◌∷◌, map, flatten}
use Rattle.meaning.specs.Limits.{in_proof}
use Rattle.meaning.specs.Lists.{same}
use Rattle.meaning.specs.Paths.{Label, normal}
use Rattle.meaning.specs.Records.{read_key, key_in, is_some, path_bytes}
use Rattle.theory_lists.specs.Bools.{bool_eq, same_eq, eq_same}
use Rattle.theory_paths.specs.Good
use Rattle.theory_paths.specs.Good.{GoodKey}
use Rattle.theory_rule_tests.specs.SameParts.{same_sets, sets-eq, eq_sets}
use Rattle.read_record.specs.BodyParts.{set_ends, set_of, set_in}
use Rattle.read_record.specs.KeyPaths.{set_holds, paths_are, paths_count}
use Rattle.read_record.specs.PathBytes.{paths_bytes}

-- two bodies are keys
pub record TwoKeys (p k : List ℕ) : Type 0 where
  pub first : is_some (read_key p) ≡ true
  pub second : is_some (read_key k) ≡ true

-- a body is a key as a proof line's may be: normal paths of at most 32 symbols
pub record LineKey (body : List ℕ) : Type 0 where
  pub shape : is_some (read_key body) ≡ true
  pub context_normal : T (normal (key_in body).context)
  pub context_short : length (key_in body).context ≤ 32
  pub target_normal : T (normal (key_in body).target)
  pub target_short : length (key_in body).target ≤ 32

pub line_key : (labels : List Label) (body : List ℕ) → is_some (read_key body) ≡ true → GoodKey labels in_proof (key_in body) → LineKey body
line_key labels body e g =
    record {
      shape = e;
      context_normal = Good.context_normal labels in_proof (key_in body) g;
      context_short = Good.context_length labels in_proof (key_in body) g;
      target_normal = Good.target_normal labels in_proof (key_in body) g;
      target_short = Good.target_length labels in_proof (key_in body) g;
    }

pub record LineKeys (p k : List ℕ) : Type 0 where
  pub first : LineKey p
  pub second : LineKey k

set_bytes : List (List ℕ) → List ℕ
set_bytes ps = length ps ∷ flatten (map path_bytes ps)

set_bytes_lem : (set : List ℕ) → set_ends set ≡ true → set_bytes (set_of set) ≡ set
unfolding set_ends set_of set_bytes
set_bytes_lem [] e = absurd (let z : ◌≡◌ {A = ℕ} 0 1 = cc in omega arith)
set_bytes_lem (n ∷ l) e = ap₂ {C = List ℕ} (λ (m : ℕ) (r : List ℕ). m ∷ r) (paths_count n l) (paths_bytes n l e)

-- two sets are the same exactly where their bytes are
pub sets_bytes : (a b : List ℕ) → set_ends a ≡ true → set_ends b ≡ true → same a b ≡ same_sets (set_of a) (set_of b)
sets_bytes a b ea eb =
    bool_eq _ _ (λ t. eq_sets _ _ (ap set_of (same_eq a b t)))
    (λ t. eq_same _ _ (sym (set_bytes_lem a ea) ∙ ap set_bytes (sets-eq _ _ t) ∙ set_bytes_lem b eb))

pub same_sets_law : {p k : List ℕ} → TwoKeys p k → {new old : List ℕ} → new ≡ set_in k → old ≡ set_in p → {r : Bool} → r ≡ pointwise ◌==◌ new old
    → r ≡ same_sets (key_in k).paths (key_in p).paths
same_sets_law {p} {k} h n o e =
    e ∙ same_list _ _ ∙ ap₂ same n o ∙ sets_bytes (set_in k) (set_in p) (set_holds k h.second) (set_holds p h.first)
    ∙ ap₂ same_sets (paths_are k h.second) (paths_are p h.first)
