use Rattle.std.proofs.Common.{◌≡◌, ℕ, suc, ◌-◌, ◌+◌, true, false, Option, Some, None, Bor, List, [], ◌∷◌, length, get_or, take, drop, eqb, refl, arith, rules, sym, ◌∙◌, eq-eqb, true≢false}
use Rattle.std.proofs.lemmas.Bool.{eqb-true}
use Rattle.std.specs.Option.{MatchOption, unwrap_or}
use Rattle.std.specs.Cmp.Lexicographic.{pointwise}
use Rattle.program_text.specs.Bare.{bare_line, bare_plain, bare_cut}
use Rattle.program_text.proofs.bare.Goals as goal

-- the last byte against the newline, as the library compares it
last_told : (l : List ℕ) → pointwise eqb (drop (length l - 1) l) (10 ∷ []) ≡ eqb (get_or l (length l - 1) 0) 10
last_told [] = refl
last_told (b ∷ []) = search rules
last_told (b ∷ d ∷ l) = let e : length (b ∷ d ∷ l) - 1 ≡ suc (length (d ∷ l) - 1) = omega arith in rw e (last_told (d ∷ l))

kept_or_cut : (line : Bor (List ℕ)) (r : Option (Bor (List ℕ)))
    → MatchOption r (pointwise eqb (drop (length line.now - 1) line.now) (10 ∷ []) ≡ false)
    (λ x. (pointwise eqb (drop (length line.now - 1) line.now) (10 ∷ []) ≡ true) × (x.now ≡ take (length line.now - 1) line.now) × (length x.now + 1 ≡ length line.now))
    → (unwrap_or r line).now ≡ bare_line line.now
kept_or_cut line None h = sym (bare_plain line.now (λ e. true≢false (sym (eq-eqb _ 10 e) ∙ sym (last_told line.now) ∙ h)))
kept_or_cut line (Some x) h = h.1 ∙ bare_cut line.now (eqb-true _ 10 (sym (last_told line.now) ∙ h.0))

pub returns : goal.returns
returns c = rw c.unwrap_or.ensures (kept_or_cut _ _ c.strip_suffix.ensures.cases)
