-- How many lines a step has.
use Rattle.std.specs.Prelude.{ℕ, ◌+◌, ◌≤◌, ◌<◌, ◌≡◌, refl, Bool, true, false, cond, List, [], ◌∷◌, ◌++◌, leb, length}
use Rattle.std.proofs.Math.Path.{sym}
use Rattle.std.proofs.Common.{◌∙◌, arith, length-append, le-leb}
use Rattle.std.proofs.lemmas.Bool.{lt-leb}
use Rattle.meaning.specs.Rules.{Line}
use Rattle.meaning.specs.Keys.{Key}
use Rattle.meaning.specs.Pattern.{t_of}
use Rattle.theory_pattern.specs.Spots.{holds_empty}
use Rattle.theory_derive.specs.Written.{opening, chain_lines, end_lines, empty_lines, step_lines}

unfoldable pub size_of : Key → ℕ → ℕ
size_of asked k = cond (leb k (t_of asked)) (cond (holds_empty asked) 8 7) (cond (holds_empty asked) 7 5)

four_size : (a b c d f : Line) (xs : List Line) (v : Bool) → length (xs ++ (a ∷ b ∷ c ∷ d ∷ cond v (f ∷ []) [])) ≡ length xs + cond v 5 4
four_size a b c d f xs true = length-append xs (a ∷ b ∷ c ∷ d ∷ f ∷ [])
four_size a b c d f xs false = length-append xs (a ∷ b ∷ c ∷ d ∷ [])

three_more : (v : Bool) → 3 + cond v 5 4 ≡ cond v 8 7
three_more true = refl
three_more false = refl

chain_size : (asked s : Key) (xs : List Line) (i j k lines : ℕ) → length (xs ++ chain_lines asked s i j k lines) ≡ length xs + cond (holds_empty asked) 5 4
unfolding chain_lines
chain_size asked s xs i j k lines = four_size _ _ _ _ _ xs (holds_empty asked)

pub step_size : (asked s : Key) (number i j k lines : ℕ) → length (step_lines asked s number i j k lines) ≡ size_of asked k
unfolding step_lines size_of opening chain_lines empty_lines end_lines
step_size asked s number i j k lines = go (leb k (t_of asked)) (holds_empty asked)
  where
    go : (a b : Bool)
        → length (opening asked s number i j k lines ++ cond a (chain_lines asked s i j k lines) (cond b (empty_lines asked s i j k lines) (end_lines asked i j lines)))
        ≡ cond a (cond (holds_empty asked) 8 7) (cond b 7 5)
    go true b = chain_size asked s (opening asked s number i j k lines) i j k lines ∙ three_more (holds_empty asked)
    go false true = refl
    go false false = refl

pub size_few : (asked : Key) (k : ℕ) → size_of asked k ≤ 8
unfolding size_of
size_few asked k = go (leb k (t_of asked)) (holds_empty asked)
  where
    go : (a b : Bool) → cond a (cond b 8 7) (cond b 7 5) ≤ 8
    go true true = omega arith
    go true false = omega arith
    go false true = omega arith
    go false false = omega arith

module _ (asked : Key) (k : ℕ) {chain : ℕ} (t : chain ≡ t_of asked) {e : Bool} (h : e ≡ holds_empty asked) where
  pub size_chain_empty : k ≤ chain → e ≡ true → 8 ≡ size_of asked k
  unfolding size_of
  size_chain_empty l v = rw (le-leb k (t_of asked) (omega arith), sym h ∙ v)

  pub size_chain : k ≤ chain → e ≡ false → 7 ≡ size_of asked k
  unfolding size_of
  size_chain l v = rw (le-leb k (t_of asked) (omega arith), sym h ∙ v)

  pub size_empty : chain < k → e ≡ true → 7 ≡ size_of asked k
  unfolding size_of
  size_empty l v = rw (lt-leb k (t_of asked) (omega arith), sym h ∙ v)

  pub size_end : chain < k → e ≡ false → 5 ≡ size_of asked k
  unfolding size_of
  size_end l v = rw (lt-leb k (t_of asked) (omega arith), sym h ∙ v)

pub size_within : {size : ℕ} (asked : Key) (k : ℕ) → size ≡ size_of asked k → size ≤ 8
size_within asked k e = let f = size_few asked k in omega arith
