-- ARGUMENT 5: the written proof is "far inside 256 lines and 65,536 bytes".
use Rattle.std.specs.Prelude.{ℕ, ◌+◌, ◌-◌, ◌*◌, ◌≤◌, ◌<◌, Bool, leb, ltb, get_or}
use Rattle.std.proofs.Math.Bool.{true, false, cond}
use mathlib.Core.List.{List, [], ◌∷◌, ◌++◌, map, flatten}
use native.Mathlib.Omega.{arith}
use Rattle.std.proofs.Math.ListN.{length, length-append}
use Rattle.meaning.specs.Limits.{in_profile, in_proof, no_number}
use Rattle.meaning.specs.Lists.{Each, end, also}
use Rattle.meaning.specs.Paths.{Label}
use Rattle.meaning.specs.Keys.{Key}
use Rattle.meaning.specs.Rules.{Line}
use Rattle.meaning.specs.Records.{no_key, word_bytes, record_bytes, path_bytes, key_body, line_bytes}
use Rattle.meaning.specs.Pattern.{t_of}
use Rattle.theory_lists.specs.Bools.{Each-of}
use Rattle.theory_paths.specs.Good.{GoodKey, context_length, target_length, key_path_length}
use Rattle.theory_lists.specs.Lists.{each_append}
use Rattle.theory_lists.specs.Logic.{each_imp, found_below}
use Rattle.theory_pattern.specs.Spots.{Taken, Chain, begun, taken, holds_empty}
use Rattle.theory_derive.specs.Written.{key_at, one_line, two_line, opening, chain_lines, empty_lines, end_lines, step_lines, taken_lines, lines_from, first_line, proof_lines}
use Rattle.theory_derive.specs.Runs.{FineLine}
use Rattle.theory_derive.specs.Accept.{proof_fine, proof_few, steps_few, step_ends}

pub flatten_length : {A : Type 0} (f : A → List ℕ) (most : ℕ) {xs : List A} → Each (λ x. length (f x) ≤ most) xs
    → length (flatten (map f xs)) ≤ most * length xs
unfolding flatten
flatten_length f most end = omega arith
flatten_length f most (also {x} {xs} h e) = omega (arith, flatten_length f most e, length-append (f x) (flatten (map f xs)))

module _ (labels : List Label) (l : Line) (h : FineLine labels l) where
  key_body_length : length (key_body l.key) ≤ 203
  unfolding key_body path_bytes
  key_body_length =
      let k = l.key in
      let paths = flatten (map path_bytes k.paths) in
      omega (
        arith,
        length-append (length k.context ∷ k.context) ((length k.target ∷ k.target) ++ (length k.paths ∷ paths)),
        length-append (length k.target ∷ k.target) (length k.paths ∷ paths),
        context_length labels in_proof k h.good,
        target_length labels in_proof k h.good,
        h.few,
        flatten_length path_bytes 17 (Each-of k.paths (λ p m. path_short p (key_path_length labels in_proof k h.good p m))),
      )
    where
      path_short : (p : List ℕ) → length p ≤ 16 → length (path_bytes p) ≤ 17
      path_short p s = omega arith

  -- a line has at most 212 bytes
  pub line_bytes_length : length (line_bytes l) ≤ 212
  unfolding line_bytes record_bytes word_bytes
  line_bytes_length = omega (arith, key_body_length)

module _ (labels : List Label) (keys : List Key) (asked : Key) (gk : Each (GoodKey labels in_profile) keys) (g : GoodKey labels in_profile asked) where
  pub proof_bytes_lem : {u : ℕ} {steps : List Taken} → Chain keys asked u steps
      → length (flatten (map line_bytes (proof_lines keys asked u steps))) ≤ 65536
  proof_bytes_lem {u} {steps} chain =
      omega (
        arith,
        flatten_length line_bytes 212 (each_imp (λ l h. line_bytes_length labels l h) (proof_fine labels keys asked gk g chain)),
        proof_few labels keys asked gk g chain,
      )

-- ---- the numbers of a line fit their bytes: "rule (1), first premise (2), second premise (2)"

pub record FieldsFit (l : Line) : Type 0 where
  pub rule : l.rule < 256
  pub first : l.first < 65536
  pub second : l.second < 65536

one_fits : (rule first : ℕ) (k : Key) → rule < 256 → first < 65536 → FieldsFit (one_line rule first k)
unfolding one_line
one_fits rule first k r f = record { rule = r; first = f; second = omega arith }

two_fits : (rule first second : ℕ) (k : Key) → rule < 256 → first < 65536 → second < 65536 → FieldsFit (two_line rule first second k)
unfolding two_line
two_fits rule first second k r f d = record { rule = r; first = f; second = d }

step_fits : (asked s : Key) (number i j k at : ℕ) → number < 65536 → at < 60000 → Each FieldsFit (step_lines asked s number i j k at)
unfolding step_lines opening chain_lines empty_lines end_lines
step_fits asked s number i j k at n a =
    also (one_fits 0 number _ (omega arith) n)
    (also (one_fits 5 at _ (omega arith) (omega arith)) (also (one_fits 6 (at + 1) _ (omega arith) (omega arith)) (go (leb k (t_of asked)) (holds_empty asked))))
  where
    last : (b : Bool) → Each FieldsFit (cond b (one_line 2 (at + 6) (key_at asked i) ∷ []) [])
    last true = also (one_fits 2 (at + 6) _ (omega arith) (omega arith)) end
    last false = end

    go : (a b : Bool) → Each FieldsFit (cond a (chain_lines asked s i j k at) (cond b (empty_lines asked s i j k at) (end_lines asked i j at)))
    go true b =
        also (one_fits 3 (at + 2) _ (omega arith) (omega arith))
        (also (one_fits 7 (at - 1) _ (omega arith) (omega arith))
        (also (one_fits 3 (at + 4) _ (omega arith) (omega arith))
        (also (two_fits 9 (at + 3) (at + 5) _ (omega arith) (omega arith) (omega arith)) (last (holds_empty asked)))))
    go false true =
        also (one_fits 3 (at + 2) _ (omega arith) (omega arith))
        (also (one_fits 2 (at + 3) _ (omega arith) (omega arith))
        (also (one_fits 8 (at + 4) _ (omega arith) (omega arith)) (also (one_fits 3 (at + 5) _ (omega arith) (omega arith)) end)))
    go false false =
        also (one_fits 4 (at + 2) _ (omega arith) (omega arith)) (also (one_fits 3 (at + 3) _ (omega arith) (omega arith)) end)

from_fits : (keys : List Key) (asked : Key) → length keys ≤ 65536 → {u : ℕ} {steps : List Taken} → Chain keys asked u steps → (at : ℕ)
    → at + 8 * length steps < 60000 → Each FieldsFit (lines_from keys asked at steps)
unfolding lines_from taken_lines
from_fits keys asked m begun at a = also (one_fits 7 (at - 1) asked (omega arith) (omega arith)) end
from_fits keys asked m (taken {steps} t chain un f uk iu) at a =
    let r = step_ends asked (get_or keys t.key no_key) t.key t.node t.branch t.spot at in
    let n = found_below keys t.key f.cited in
    each_append (lines_from keys asked (at + length (taken_lines keys asked t at)) steps)
    (step_fits asked _ t.key t.node t.branch t.spot at (omega arith) (omega arith))
    (from_fits keys asked m chain (at + length (taken_lines keys asked t at)) (omega (arith, r.few)))

module _ (labels : List Label) (keys : List Key) (asked : Key) (gk : Each (GoodKey labels in_profile) keys) (g : GoodKey labels in_profile asked) where
  pub proof_fields : length keys ≤ 65536 → {u : ℕ} {steps : List Taken} → Chain keys asked u steps → Each FieldsFit (proof_lines keys asked u steps)
  unfolding proof_lines first_line
  proof_fields m {u} {steps} chain =
      also (one_fits _ no_number _ (small (ltb u (t_of asked))) (omega arith)) (from_fits keys asked m chain 1 (omega (arith, steps_few labels keys asked gk g chain)))
    where
      small : (b : Bool) → cond b 10 1 < 256
      small true = omega arith
      small false = omega arith
