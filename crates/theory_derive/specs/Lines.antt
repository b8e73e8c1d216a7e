-- The keys that are read off the asked key's rows: each is well formed. ARGUMENT 5: "all others are read off the asked key's rows".
use Rattle.std.specs.Prelude.{ℕ, ◌≤◌, refl, ◌&&◌, leb, length, take, drop}
use Rattle.std.proofs.Common.{sym, arith, le→leb, length-append}
use Rattle.std.proofs.Math.Path.{subst}
use mathlib.Core.List.{List, [], ◌∷◌, ◌++◌, append_assoc, append-nil, Memᴰ}
use Rattle.std.proofs.Math.Dec.{T}
use Rattle.std.proofs.Math.ListN.{length-take, length-drop, take-append-drop}
use Rattle.meaning.specs.Limits.{KeyLimits, in_profile, in_proof}
use Rattle.meaning.specs.Lists.{Each, every, ascending}
use Rattle.meaning.specs.Paths.{Label, class_of, normal, join, simple, valid}
use Rattle.meaning.specs.Keys.{Key}
use Rattle.meaning.specs.Rules.{BeginsSome}
use Rattle.meaning.specs.Refusals
use Rattle.meaning.specs.Refusals.{is_symbol, good_path, good_symbols, good_set}
use Rattle.theory_lists.specs.Bools.{both, every_left, every_right, Each-at, Each-of, Each-every}
use Rattle.theory_paths.specs.Normal.{norm_normal}
use Rattle.theory_paths.specs.Simple.{simple_left, simple_normal}
use Rattle.theory_paths.specs.Valid.{valid_norm}
use Rattle.theory_paths.specs.Good.{GoodKey, context_symbols, target_symbols, key_path_symbols, key_path_simple, key_path_length, context_length, target_length, paths_some, paths_within, paths_ascending, valid_joined, context_normal, target_normal}
use Rattle.theory_lists.specs.Logic.{each_imp}
use Rattle.theory_pattern.specs.Rows.{OnRow, chain_short, on_symbols, on_valid}
use Rattle.theory_pattern.specs.RowParts.{every_norm, norm_length, join_norms_three}
use Rattle.theory_pattern.specs.Spots.{chain_of}
use Rattle.theory_derive.specs.Written.{key_of, key_at}

-- a key path of a line: simple, short, and read off a row behind what stands before it
pub record ReadOff (asked : Key) (X p : List ℕ) : Type 0 where
  pub is_simple : T (simple p)
  pub short : length p ≤ 16
  pub on : OnRow asked (X ++ p)

-- a key that the limits let pass, put together
pub good_make : (labels : List Label) (limits : KeyLimits) (k : Key) → T (every (is_symbol labels) k.context) → T (normal k.context)
    → length k.context ≤ limits.symbols → T (every (is_symbol labels) k.target) → T (normal k.target)
    → length k.target ≤ limits.symbols
    → Each (λ p. T (every (is_symbol labels) p) × T (simple p) × (length p ≤ limits.path_symbols)) k.paths
    → 1 ≤ length k.paths → length k.paths ≤ limits.paths → T (ascending k.paths)
    → Each (λ p. T (valid (class_of labels) (join (join k.context k.target) p))) k.paths → GoodKey labels limits k
unfolding good_symbols good_set good_path Refusals.all_valid
good_make labels limits k cs cn cl ts tn tl ps some within asc ok =
    let path : (p : List ℕ) (limit : ℕ) → T (every (is_symbol labels) p) → T (normal p) → length p ≤ limit → T (good_path labels limit p) =
    λ p limit s m l. both (every (is_symbol labels) p && normal p) (leb (length p) limit) (both (every (is_symbol labels) p) (normal p) s m) (le→leb (length p) limit l) in
    record {
      symbols = both (good_path labels limits.symbols k.context && good_path labels limits.symbols k.target) _
          (both (good_path labels limits.symbols k.context) (good_path labels limits.symbols k.target)
          (path k.context limits.symbols cs cn cl) (path k.target limits.symbols ts tn tl))
          (Each-every (λ (p : List ℕ). good_path labels limits.path_symbols p && simple p)
          (each_imp (λ p h. both (good_path labels limits.path_symbols p) (simple p)
          (path p limits.path_symbols h.0 (simple_normal p h.1) h.2) h.1) ps));
      set = both (leb 1 (length k.paths) && leb (length k.paths) limits.paths) (ascending k.paths)
          (both (leb 1 (length k.paths)) (leb (length k.paths) limits.paths) (le→leb 1 (length k.paths) some) (le→leb (length k.paths) limits.paths within)) asc;
      all_valid = Each-every (λ (p : List ℕ). valid (class_of labels) (join (join k.context k.target) p)) ok;
    }

-- a profile's key is within a proof line's limits
pub good_wider : (labels : List Label) (k : Key) → GoodKey labels in_profile k → GoodKey labels in_proof k
good_wider labels k g =
    good_make labels in_proof k (context_symbols labels in_profile k g) (context_normal labels in_profile k g)
    (omega (arith, context_length labels in_profile k g)) (target_symbols labels in_profile k g) (target_normal labels in_profile k g)
    (omega (arith, target_length labels in_profile k g))
    (Each-of k.paths
    (λ p m. (key_path_symbols labels in_profile k g p m, key_path_simple labels in_profile k g p m, omega (arith, key_path_length labels in_profile k g p m))))
    (paths_some labels in_profile k g) (omega (arith, paths_within labels in_profile k g)) (paths_ascending labels in_profile k g)
    (Each-of k.paths (λ p m. valid_joined labels in_profile k g p m))

module _ (labels : List Label) (asked : Key) (g : GoodKey labels in_profile asked) where
  -- a key whose context, target and key paths are read off the rows
  pub good_read : (C X : List ℕ) (S : List (List ℕ)) → length C ≤ 32 → length X ≤ 32 → 1 ≤ length S → length S ≤ 64 → T (ascending S)
      → Each (ReadOff asked (C ++ X)) S → GoodKey labels in_proof (key_of C X S)
  unfolding key_of
  good_read C X [] c x some within asc e = absurd (omega arith)
  good_read C X (q ∷ S) c x some within asc e =
      let symbols : (p : List ℕ) → ReadOff asked (C ++ X) p → T (every (is_symbol labels) (C ++ X ++ p)) = λ p r. on_symbols labels asked g (C ++ X ++ p) r.on in
      let chain = every_left (is_symbol labels) (C ++ X) q (symbols q (Each-at e q (Memᴰ.head refl))) in
      good_make labels in_proof (key_of C X (q ∷ S))
      (every_norm (is_symbol labels) C (every_left (is_symbol labels) C X chain)) (norm_normal C) (omega (arith, norm_length C))
      (every_norm (is_symbol labels) X (every_right (is_symbol labels) C X chain)) (norm_normal X) (omega (arith, norm_length X))
      (each_imp (λ p r. (every_right (is_symbol labels) (C ++ X) p (symbols p r), r.is_simple, r.short)) e) some within asc
      (each_imp
      (λ p r. subst (λ l. T (valid (class_of labels) l)) (sym (join_norms_three C X p))
      (subst T (sym (valid_norm (class_of labels) (C ++ X ++ p))) (on_valid labels asked g (C ++ X ++ p) r.on))) e)

  -- what begins a key path of the asked key is read off behind t
  pub begins_on : (u : List ℕ) → BeginsSome asked.paths u → OnRow asked (chain_of asked ++ u)
  begins_on u b =
      record {
        path = u ++ b.rest;
        among = b.among;
        rest = b.rest;
        whole = append_assoc (chain_of asked) u b.rest;
      }

  pub begins_simple : (u : List ℕ) → BeginsSome asked.paths u → T (simple u)
  begins_simple u b = simple_left u b.rest (key_path_simple labels in_profile asked g (u ++ b.rest) b.among)

  pub begins_short : (u : List ℕ) → BeginsSome asked.paths u → length u ≤ 8
  begins_short u b = omega (arith, key_path_length labels in_profile asked g (u ++ b.rest) b.among, length-append u b.rest)

  pub begins_read : (u : List ℕ) → BeginsSome asked.paths u → ReadOff asked (chain_of asked) u
  begins_read u b =
      record { is_simple = begins_simple u b; short = omega (arith, begins_short u b); on = begins_on u b }

  pub among_begins : (u : List ℕ) → Memᴰ u asked.paths → BeginsSome asked.paths u
  among_begins u m = record { rest = []; among = subst (λ l. Memᴰ l asked.paths) (sym (append-nil u)) m }

  -- K h is well formed
  pub good_at : (h : ℕ) → GoodKey labels in_proof (key_at asked h)
  unfolding key_at
  good_at h =
      let e = take-append-drop h (chain_of asked) in
      good_read (take h (chain_of asked)) (drop h (chain_of asked)) asked.paths
      (omega (arith, length-take h (chain_of asked), chain_short labels asked g)) (omega (arith, length-drop h (chain_of asked), chain_short labels asked g))
      (paths_some labels in_profile asked g) (omega (arith, paths_within labels in_profile asked g)) (paths_ascending labels in_profile asked g)
      (subst (λ l. Each (ReadOff asked l) asked.paths) (sym e) (Each-of asked.paths (λ p m. begins_read p (among_begins p m))))
