-- Lines that follow, when a list of lines grows at its end.
use Rattle.std.specs.Prelude.{ℕ, suc, ◌<◌, ◌≤◌, ◌≡◌, ◌⊎◌, Bool, true, false, length}
use Rattle.std.proofs.Common.{sym, ◌∙◌, inl, inr, arith, eq-or-lt_of_le, le_of_suc-le-suc}
use Rattle.std.proofs.Math.Path.{subst}
use mathlib.Core.List.{List, [], ◌∷◌, ◌++◌}
use Rattle.std.proofs.Math.Option.{some-injective}
use Rattle.std.proofs.lemmas.List.{take-append-le}
use Rattle.std.proofs.Math.Seq.{take-append_seam}
use Rattle.meaning.specs.Limits.{in_proof}
use Rattle.meaning.specs.Lists.{Each, end, also}
use Rattle.meaning.specs.Paths.{Label}
use Rattle.meaning.specs.Keys.{Key}
use Rattle.meaning.specs.Rules.{Line, FollowsIn, line_keys, FollowsAt, FollowsBelow}
use Rattle.theory_paths.specs.Good.{GoodLabels, GoodKey}
use Rattle.theory_lists.specs.Bools.{of_true, of_false}
use Rattle.theory_rule_tests.specs.EditionTest.{follows_in_test, test_follows_in, follows_in_test_lem}
use Rattle.theory_records.specs.Places.{at_seam, at_left}

pub good_keys : {labels : List Label} {lines : List Line} → Each (λ (x : Line). GoodKey labels in_proof x.key) lines → Each (GoodKey labels in_proof) (line_keys lines)
unfolding line_keys
good_keys end = end
good_keys (also g gs) = also g (good_keys gs)

module _ (single : ℕ → Bool) (labels : List Label) (keys : List Key) where
  pub still_follows : (base more : List Line) (i : ℕ) → i < length base → FollowsAt single labels keys base i → FollowsAt single labels keys (base ++ more) i
  still_follows base more i h f =
      record {
        line = f.line;
        stands = at_left base more i h ∙ f.stands;
        follows =
            subst (λ (l : List Line). FollowsIn single labels keys (line_keys l) f.line) (sym (take-append-le i base more (omega arith))) f.follows;
      }

  pub still_below : (base more : List Line) (n : ℕ) → n ≤ length base → FollowsBelow single labels keys base n → FollowsBelow single labels keys (base ++ more) n
  unfolding FollowsBelow
  still_below base more n h f = λ i less. still_follows base more i (omega arith) (f i less)

  pub new_follows : (base : List Line) (line : Line) (more : List Line) → FollowsIn single labels keys (line_keys base) line
      → FollowsAt single labels keys (base ++ (line ∷ more)) (length base)
  new_follows base line more f =
      record {
        line = line;
        stands = at_seam base line more;
        follows = subst (λ (l : List Line). FollowsIn single labels keys (line_keys l) line) (sym (take-append_seam base (line ∷ more))) f;
      }

  pub new_did_follow : (base : List Line) (line : Line) (more : List Line) → FollowsAt single labels keys (base ++ (line ∷ more)) (length base)
      → FollowsIn single labels keys (line_keys base) line
  new_did_follow base line more f =
      let e : f.line ≡ line = some-injective _ _ (sym f.stands ∙ at_seam base line more) in
      subst (λ (x : Line). FollowsIn single labels keys (line_keys base) x) e
      (subst (λ (l : List Line). FollowsIn single labels keys (line_keys l) f.line) (take-append_seam base (line ∷ more)) f.follows)

  pub below_more : (base : List Line) (line : Line) (n : ℕ) → n ≡ length base → FollowsBelow single labels keys base n → FollowsIn single labels keys (line_keys base) line
      → FollowsBelow single labels keys (base ++ (line ∷ [])) (suc n)
  unfolding FollowsBelow
  below_more base line n e f g = λ i h. go i (eq-or-lt_of_le (le_of_suc-le-suc h))
    where
      go : (i : ℕ) → (i ≡ n) ⊎ (i < n) → FollowsAt single labels keys (base ++ (line ∷ [])) i
      go i (inl q) = subst (λ (j : ℕ). FollowsAt single labels keys (base ++ (line ∷ [])) j) (sym (q ∙ e)) (new_follows base line [] g)
      go i (inr h) = still_follows base (line ∷ []) i (omega arith) (f i h)

-- what the test says
module _ (single : ℕ → Bool) (labels : List Label) (known : GoodLabels labels) (keys : List Key) (lines : List Line)
    (good : Each (λ (x : Line). GoodKey labels in_proof x.key) lines) (line : Line) (good_line : GoodKey labels in_proof line.key)
    {r : Bool} (e : r ≡ follows_in_test single keys (line_keys lines) line) where
  pub told_follows : r ≡ true → FollowsIn single labels keys (line_keys lines) line
  told_follows t = test_follows_in single labels known in_proof keys (line_keys lines) (good_keys good) line good_line (of_true _ (sym e ∙ t))

  pub told_not : r ≡ false → FollowsIn single labels keys (line_keys lines) line → ⊥
  told_not t f = of_false _ (sym e ∙ t) (follows_in_test_lem single labels known in_proof keys (line_keys lines) (good_keys good) line good_line f)
