-- Tests taken apart: what it says that a list of tests gives no number, and that a chain of tests is true.
use Rattle.std.specs.Prelude.{ℕ, zero, suc, ◌≡◌, refl, Bool, true, false, ◌&&◌, ◌||◌, not, List, [], ◌∷◌, ◌++◌, ◌⊎◌, T, ltb}
use Rattle.std.proofs.Common.{sym, subst, ◌∙◌, inl, inr, arith, ltb-true}
use Rattle.meaning.specs.Lists.{every}
use Rattle.meaning.specs.Refusals.{first_of}

pub both : (a b : Bool) → a && b ≡ true → (a ≡ true) × (b ≡ true)
both true b e = (refl, e)
both false b e = absurd (subst T (sym e) tt)

pub and-true : {a b : Bool} → a ≡ true → b ≡ true → a && b ≡ true
and-true {a} {b} p q = rw (p, q)

pub either : (a b : Bool) → a || b ≡ true → (a ≡ true) ⊎ (b ≡ true)
either true b e = inl refl
either false b e = inr e

pub never : (b : Bool) → b ≡ true → b ≡ false → ⊥
never b p q = subst T q (subst T (sym p) tt)

-- a number that is not 0 was not given: its test fails
pub first_none : (r : ℕ) (t : Bool) (ts : List (ℕ × Bool)) → first_of ((suc r, t) ∷ ts) ≡ 0 → (t ≡ false) × (first_of ts ≡ 0)
unfolding first_of
first_none r true ts e = absurd (omega arith)
first_none r false ts e = (refl, e)

pub first_holds : (r : ℕ) {t : Bool} (ts : List (ℕ × Bool)) → t ≡ true → first_of ((r, t) ∷ ts) ≡ r
unfolding first_of
first_holds r ts e = rw e

pub first_fails : (r : ℕ) {t : Bool} (ts : List (ℕ × Bool)) → t ≡ false → first_of ((r, t) ∷ ts) ≡ first_of ts
unfolding first_of
first_fails r ts e = rw e

-- Tests behind others, none of which has number 0: a number of the others comes first, and where they give none these are asked
unfoldable pub numbered : List (ℕ × Bool) → Bool
numbered = every (λ (t : ℕ × Bool). ltb 0 t.0)

pub first_stops : (ts us : List (ℕ × Bool)) (r : ℕ) → first_of ts ≡ suc r → first_of (ts ++ us) ≡ suc r
unfolding first_of
first_stops [] us r e = absurd (omega arith)
first_stops ((n, true) ∷ ts) us r e = e
first_stops ((n, false) ∷ ts) us r e = first_stops ts us r e

pub first_passes : (ts us : List (ℕ × Bool)) → numbered ts ≡ true → first_of ts ≡ 0 → first_of (ts ++ us) ≡ first_of us
unfolding first_of numbered every
first_passes [] us h e = refl
first_passes ((n, true) ∷ ts) us h e = let some = ltb-true 0 n (both (ltb 0 n) (numbered ts) h).0 in absurd (omega arith)
first_passes ((n, false) ∷ ts) us h e = first_passes ts us (both (ltb 0 n) (numbered ts) h).1 e

pub first_both : (ts us : List (ℕ × Bool)) → numbered ts ≡ true → first_of (ts ++ us) ≡ 0 → (first_of ts ≡ 0) × (first_of us ≡ 0)
first_both ts us h e = go (first_of ts) refl
  where
    go : (n : ℕ) → first_of ts ≡ n → (first_of ts ≡ 0) × (first_of us ≡ 0)
    go zero q = (q, sym (first_passes ts us h q) ∙ e)
    go (suc n) q = absurd (omega (arith, first_stops ts us n q, e))

pub not_holds : {t : Bool} → t ≡ true → not t ≡ false
not_holds e = rw e

pub not_fails : {t : Bool} → t ≡ false → not t ≡ true
not_fails e = rw e
