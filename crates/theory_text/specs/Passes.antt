-- Record order changes neither what holds of every path nor how many there are.
use Rattle.std.specs.Prelude.{ℕ, suc, ◌+◌, ◌≡◌, refl, Bool, true, false, cond, ◌&&◌, List, [], ◌∷◌, length}
use Rattle.std.proofs.Common.{ap, ◌∙◌, arith}
use Rattle.meaning.specs.Lists.{every, before}
use Rattle.meaning.specs.Text.{put_path, in_record_order}

-- ---- the order of the paths
turn : (a b c : Bool) → a && (b && c) ≡ b && (a && c)
turn true b c = refl
turn false true c = refl
turn false false c = refl

swap : (a b c : Bool) → (a && b) && c ≡ b && (a && c)
swap true b c = refl
swap false true c = refl
swap false false c = refl

pub every_put : (f : List ℕ → Bool) (p : List ℕ) (done : List (List ℕ)) → every f (put_path p done) ≡ f p && every f done
unfolding put_path every
every_put f p [] = refl
every_put f p (q ∷ done) = go (before p q) (every_put f p done)
  where
    go : (b : Bool) → every f (put_path p done) ≡ f p && every f done → every f (cond b (p ∷ q ∷ done) (q ∷ put_path p done)) ≡ f p && (f q && every f done)
    go true e = refl
    go false e = ap (λ (c : Bool). f q && c) e ∙ turn (f q) (f p) (every f done)

pub every_order : (f : List ℕ → Bool) (done typed : List (List ℕ)) → every f (in_record_order done typed) ≡ every f done && every f typed
unfolding in_record_order every
every_order f done [] = go (every f done)
  where
    go : (b : Bool) → b ≡ b && true
    go true = refl
    go false = refl
every_order f done (p ∷ typed) =
    every_order f (put_path p done) typed ∙ (ap (λ (b : Bool). b && every f typed) (every_put f p done) ∙ swap (f p) (every f done) (every f typed))

pub length_put : (p : List ℕ) (done : List (List ℕ)) → length (put_path p done) ≡ suc (length done)
unfolding put_path
length_put p [] = refl
length_put p (q ∷ done) = go (before p q) (length_put p done)
  where
    go : (b : Bool) → length (put_path p done) ≡ suc (length done) → length (cond b (p ∷ q ∷ done) (q ∷ put_path p done)) ≡ suc (suc (length done))
    go true e = refl
    go false e = ap suc e

pub length_order : (done typed : List (List ℕ)) → length (in_record_order done typed) ≡ length done + length typed
unfolding in_record_order
length_order done [] = omega arith
length_order done (p ∷ typed) = let e = length_order (put_path p done) typed in let f = length_put p done in omega arith
