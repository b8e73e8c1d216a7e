-- A text between marks, piece by piece: what a loop over them passes.
use Rattle.std.specs.Prelude.{ℕ, zero, suc, ◌+◌, ◌<◌, ◌≤◌, ◌≡◌, refl, Bool, true, false, cond, List, [], ◌∷◌, eqb, length, map}
use Rattle.std.specs.Prelude as library
use Rattle.std.specs.declared.slice.Split.{Split}
use Rattle.std.specs.Fn.{CalledAt}
use Rattle.std.specs.Iterator.{Yields}
use Rattle.std.specs.Iterator.Adapters.{enumerate_source, enumerate_count, enumerate_steps}
use Rattle.std.specs.declared.iter.Enumerate.{Enumerate}
use Rattle.std.specs.List.{slice_split, onto_first, enumerate_from}
use Rattle.std.specs.Slice.Iter.{split_rest, split_done, split_callee, split_steps}
use Rattle.std.proofs.lemmas.Iterator.{YieldsList}
use Rattle.std.proofs.lemmas.Iterator.Consumers.{YieldsList-from_enumerate, YieldsList-turn, YieldsList-end}
use Rattle.std.proofs.lemmas.Iterator.Splits.{YieldsList-from_slice_split}
use Rattle.std.proofs.lemmas.List.{length-map}
use Rattle.std.proofs.lemmas.List.FromFn.{length-enumerate_from}
use denote.Param.Members.{Mut}
use denote.Ref.{Bor}
use Rattle.std.proofs.Common.{sym, ap, ◌∙◌, arith}
use Rattle.std.proofs.lemmas.List.Splits.{length-slice_split}
use Rattle.std.proofs.lemmas.List.Sums.{count_by-le-length}
use Rattle.std.proofs.Math.Option.{Option, some}
use Rattle.meaning.specs.Records.{and_then}
use Rattle.meaning.specs.Text.{Typed, every_one}
use Rattle.theory_text.specs.Reading.{up_to, from_the, read_symbol, rest_of, read_symbols}
use Rattle.theory_text.specs.Pieces.{from_length}

-- the pieces between marks, one more than there are marks
unfoldable pub pieces : ℕ → List ℕ → List (List ℕ)
pieces x t = slice_split (λ b. eqb b x) t

-- the pieces behind the first one
unfoldable pub other_pieces : ℕ → List ℕ → List (List ℕ)
other_pieces x [] = []
other_pieces x (d ∷ r) = pieces x r

pub pieces_first : (x : ℕ) (t : List ℕ) → pieces x t ≡ up_to x t ∷ other_pieces x (from_the x t)
unfolding pieces up_to from_the other_pieces
pieces_first x [] = refl
pieces_first x (b ∷ t) = go (eqb b x) (pieces_first x t)
  where
    go : (c : Bool) → pieces x t ≡ up_to x t ∷ other_pieces x (from_the x t)
        → cond c ([] ∷ pieces x t) (onto_first b (pieces x t)) ≡ cond c [] (b ∷ up_to x t) ∷ other_pieces x (cond c (b ∷ t) (from_the x t))
    go true e = refl
    go false e = ap (onto_first b) e

-- the reader of symbols reads each piece
pub read_pieces : (fuel : ℕ) (t : List ℕ) → length t < fuel → read_symbols fuel t ≡ every_one read_symbol (pieces 46 t)
unfolding read_symbols
read_pieces zero t h = absurd (omega arith)
read_pieces (suc fuel) t h = go (from_the 46 t) (from_length 46 t) (read_pieces fuel) ∙ ap (every_one read_symbol) (sym (pieces_first 46 t))
  where
    go : (r : List ℕ) → length r ≤ length t → ((u : List ℕ) → length u < fuel → read_symbols fuel u ≡ every_one read_symbol (pieces 46 u))
        → and_then (read_symbol (up_to 46 t)) (λ s. rest_of (read_symbols fuel) s r) ≡ every_one read_symbol (up_to 46 t ∷ other_pieces 46 r)
    go [] small more = unfold rest_of every_one other_pieces and_then in refl
    go (d ∷ r) small more =
        unfold rest_of every_one other_pieces in
        ap (λ (o : Option (List Typed)). and_then (read_symbol (up_to 46 t)) (λ s. and_then o (λ p. some (s ∷ p)))) (more r (omega (arith, h, small)))

-- a loop over the pieces, which has passed some of them
module _ {F : Type 0} {g : Mut F (Bor ℕ × Unit {0}) Bool} (x : ℕ) (t : List ℕ) (s : Split ℕ F) (xs : List (Bor (List ℕ))) (u : Split ℕ F) (passed : Yields (split_steps g) s xs u)
    (r : library.Option (Bor (List ℕ))) (w : Split ℕ F) (step : split_steps g u r w) where
  pub pieces_all : r ≡ library.None → split_rest s ≡ t → split_done s ≡ false → {f : F} → split_callee s ≡ f
      → ((y : ℕ) (b : Bool) (q : F) → CalledAt g f y b q → (q ≡ f) × (b ≡ eqb y x)) → map (λ p. p.now) xs ≡ pieces x t
  unfolding pieces
  pieces_all e rest done callee test =
      (YieldsList-end (YieldsList-from_slice_split g (λ b. eqb b x) t rest done callee test) xs u passed r w e step).0

  -- another piece comes, so those that came are no more than the bytes
  pub pieces_few : {y : Bor (List ℕ)} → r ≡ library.Some y → split_rest s ≡ t → split_done s ≡ false → {f : F} → split_callee s ≡ f
      → ((z : ℕ) (b : Bool) (q : F) → CalledAt g f z b q → (q ≡ f) × (b ≡ eqb z x)) → length (map (λ p. p.now) xs) ≤ length t
  pieces_few {y} e rest done callee test =
      omega (
        arith,
        length-map xs (λ p. p.now),
        (YieldsList-turn (YieldsList-from_slice_split g (λ b. eqb b x) t rest done callee test) xs u passed r w y e step).0,
        length-slice_split (λ b. eqb b x) t,
        count_by-le-length (λ b. eqb b x) t,
      )

-- the same, of a loop that numbers them
module _ {F : Type 0} {g : Mut F (Bor ℕ × Unit {0}) Bool} (x : ℕ) (t : List ℕ) (s : Enumerate (Split ℕ F)) (xs : List (ℕ × Bor (List ℕ))) (u : Enumerate (Split ℕ F))
    (passed : Yields (enumerate_steps (split_steps g)) s xs u) (r : library.Option (ℕ × Bor (List ℕ))) (w : Enumerate (Split ℕ F)) (step : enumerate_steps (split_steps g) u r w)
    (from_first : enumerate_count s ≡ 0) {parts : Split ℕ F} (source : enumerate_source s ≡ parts) (rest : split_rest parts ≡ t) (done : split_done parts ≡ false)
    {f : F} (callee : split_callee parts ≡ f) (test : (z : ℕ) (b : Bool) (q : F) → CalledAt g f z b q → (q ≡ f) × (b ≡ eqb z x)) where
  numbered : YieldsList {B = ℕ × List ℕ} (enumerate_steps (split_steps g)) (λ p. (p.0, p.1.now)) s (enumerate_from 0 (pieces x t))
  unfolding pieces
  numbered =
      YieldsList-from_enumerate
      (YieldsList-from_slice_split g (λ b. eqb b x) t (ap split_rest source ∙ rest) (ap split_done source ∙ done) (ap split_callee source ∙ callee) test) from_first

  pub numbered_all : r ≡ library.None → map (λ p. (p.0, p.1.now)) xs ≡ enumerate_from 0 (pieces x t)
  numbered_all e = (YieldsList-end numbered xs u passed r w e step).0

  pub numbered_few : {y : ℕ × Bor (List ℕ)} → r ≡ library.Some y → length xs ≤ length t
  unfolding pieces
  numbered_few {y} e =
      omega (
        arith,
        (YieldsList-turn numbered xs u passed r w y e step).0,
        length-enumerate_from 0 (pieces x t),
        length-slice_split (λ b. eqb b x) t,
        count_by-le-length (λ b. eqb b x) t,
      )
