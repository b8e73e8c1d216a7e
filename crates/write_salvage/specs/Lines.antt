-- The parts of the lines, and how many bytes they have at most.
use Rattle.std.specs.Prelude.{ℕ, zero, suc, ◌+◌, ◌*◌, ◌<◌, ◌≤◌, ◌≡◌, refl, Bool, true, false, cond, ltb, take, set}
use Rattle.std.proofs.Common.{sym, ◌∙◌, ap₂, subst, arith, length-append, take_all, lt-ltb}
use Rattle.std.proofs.Math.Path.{ap}
use mathlib.Core.List.{List, [], ◌∷◌, ◌++◌, map, flatten, append_assoc, append-nil}
use Rattle.std.proofs.Math.ListN.{length}
use Rattle.meaning.specs.Listing.{decimal, space, newline}
use Rattle.meaning.specs.Salvage.{salvaged_line, broken_line}
use Rattle.op_answers.specs.declared.Witness.{Witness}
use Rattle.op_answers.specs.Cases.{numbers_of, pairs_of}
use Rattle.write_bytes.specs.Wrote.{Wrote, wrote_more, wrote_none, wrote_byte}
use Rattle.write_listing.specs.Decimal.{twenty_digits}

-- Written, and not more than so many bytes
pub record WroteUpTo (most : ℕ) (out end : List ℕ) (at : ℕ) (v : List ℕ) (next : ℕ) : Type 0 where
  pub wrote : Wrote out end at v next
  pub short : length v ≤ most

unfoldable pub spaced : ℕ → List ℕ
spaced n = space ++ decimal n

unfoldable pub numbers_shown : List ℕ → List ℕ
numbers_shown numbers = flatten (map spaced numbers)

-- a line of `drop_lines`
unfoldable pub drop_line : ℕ → ℕ → List ℕ
drop_line n r = decimal n ++ (space ++ (decimal r ++ newline))

unfoldable pub pair_if : Bool → ℕ → ℕ → List ℕ
pair_if b x y = cond b (spaced x ++ spaced y) []

unfoldable pub pairs_shown : Witness → List ℕ
pairs_shown w =
    pair_if (ltb 0 w.paths) w.x0 w.y0
    ++ (pair_if (ltb 1 w.paths) w.x1 w.y1 ++ (pair_if (ltb 2 w.paths) w.x2 w.y2 ++ pair_if (ltb 3 w.paths) w.x3 w.y3))

-- the pairs that the witness has, one by one
pairs_at : (n a b c d e f g h : ℕ)
    → pair_if (ltb 0 n) a b ++ (pair_if (ltb 1 n) c d ++ (pair_if (ltb 2 n) e f ++ pair_if (ltb 3 n) g h))
    ≡ numbers_shown (take (2 * n) (a ∷ b ∷ c ∷ d ∷ e ∷ f ∷ g ∷ h ∷ []))
unfolding pair_if numbers_shown flatten
pairs_at zero a b c d e f g h = refl
pairs_at (suc zero) a b c d e f g h = simp (append_assoc, append-nil)
pairs_at (suc (suc zero)) a b c d e f g h = simp (append_assoc, append-nil)
pairs_at (suc (suc (suc zero))) a b c d e f g h = simp (append_assoc, append-nil)
pairs_at (suc (suc (suc (suc n)))) a b c d e f g h =
    let l : List ℕ = a ∷ b ∷ c ∷ d ∷ e ∷ f ∷ g ∷ h ∷ [] in
    let all : take (2 * suc (suc (suc (suc n)))) l ≡ l = take_all (2 * suc (suc (suc (suc n)))) l (omega arith) in
    let same : pair_if true a b ++ (pair_if true c d ++ (pair_if true e f ++ pair_if true g h)) ≡ flatten (map spaced l) = simp (append_assoc, append-nil) in
    let m : ℕ = suc (suc (suc (suc n))) in
    let there : (i : ℕ) → i < 4 → ltb i m ≡ true = λ i h. lt-ltb i m (omega arith) in
    ap₂ (λ (p q : List ℕ). p ++ q) (ap (λ (k : Bool). pair_if k a b) (there 0 (omega arith)))
    (ap₂ (λ (p q : List ℕ). p ++ q) (ap (λ (k : Bool). pair_if k c d) (there 1 (omega arith)))
    (ap₂ (λ (p q : List ℕ). p ++ q) (ap (λ (k : Bool). pair_if k e f) (there 2 (omega arith))) (ap (λ (k : Bool). pair_if k g h) (there 3 (omega arith)))))
    ∙ (same ∙ ap (λ (k : List ℕ). flatten (map spaced k)) (sym all))

pub pairs_are : (w : Witness) → pairs_shown w ≡ numbers_shown (take (2 * w.paths) (pairs_of w))
unfolding pairs_shown
pairs_are w = pairs_at w.paths w.x0 w.y0 w.x1 w.y1 w.x2 w.y2 w.x3 w.y3

-- how they are put together
module _ {out mid v : List ℕ} {at next most : ℕ} (w : WroteUpTo most out mid at v next) where
  pub up_more : {end u : List ℕ} {last more : ℕ} → WroteUpTo more mid end next u last → WroteUpTo (most + more) out end at (v ++ u) last
  up_more {u = u} x =
      let m = w.short in
      let n = x.short in
      let e = length-append v u in
      record { wrote = wrote_more w.wrote x.wrote; short = omega arith }

  pub up_is : {u : List ℕ} → v ≡ u → WroteUpTo most out mid at u next
  up_is e = subst (λ (u : List ℕ). WroteUpTo most out mid at u next) e w

  pub up_most : (more : ℕ) → most ≤ more → WroteUpTo more out mid at v next
  up_most more h = let m = w.short in record { wrote = w.wrote; short = omega arith }

  -- the room behind
  pub up_room : (k : ℕ) → at + most + k ≤ length out → next + k ≤ length mid
  up_room k h = let m = w.short in let e = w.wrote.kept in let n = w.wrote.after in omega arith

  pub up_byte : (b : ℕ) → at + most + 1 ≤ length out → WroteUpTo (most + 1) out (set mid next b) at (v ++ (b ∷ [])) (next + 1)
  up_byte b h = up_more (record { wrote = wrote_byte mid next b (up_room 1 h); short = omega arith })

pub up_word : {out mid v : List ℕ} {at next : ℕ} (most : ℕ) → Wrote out mid at v next → length v ≤ most → WroteUpTo most out mid at v next
up_word most w h = record { wrote = w; short = h }

pub digits_wrote : {out mid : List ℕ} {at next : ℕ} (n : ℕ) → n < 18446744073709551616 → Wrote out mid at (decimal n) next
    → WroteUpTo 20 out mid at (decimal n) next
digits_wrote n h w = record { wrote = w; short = twenty_digits n h }

pub number_wrote : (out : List ℕ) {mid : List ℕ} (at n : ℕ) {next : ℕ} → at + 21 ≤ length out → WroteUpTo 20 (set out at 32) mid (at + 1) (decimal n) next
    → WroteUpTo 21 out mid at (spaced n) next
unfolding spaced
number_wrote out at n r w = up_more (up_word 1 (wrote_byte out at 32 (omega arith)) (omega arith)) w

pub pair_shown : {out mid end : List ℕ} {at next last : ℕ} (b : Bool) (x y : ℕ) → b ≡ true → WroteUpTo 21 out mid at (spaced x) next
    → WroteUpTo 21 mid end next (spaced y) last → WroteUpTo 42 out end at (pair_if b x y) last
unfolding pair_if
pair_shown b x y e w u = up_is (up_more w u) (sym (ap (λ (c : Bool). cond c (spaced x ++ spaced y) []) e))

pub pair_none : (out : List ℕ) (at : ℕ) (b : Bool) (x y : ℕ) → b ≡ false → at + 42 ≤ length out → WroteUpTo 42 out out at (pair_if b x y) at
unfolding pair_if
pair_none out at b x y e r =
    up_is (up_word 42 (wrote_none out at (omega arith)) (omega arith)) (sym (ap (λ (c : Bool). cond c (spaced x ++ spaced y) []) e))

module _ {o a b c d : List ℕ} {at p q r s : ℕ} (w : Witness) where
  pub pairs_wrote : WroteUpTo 42 o a at (pair_if (ltb 0 w.paths) w.x0 w.y0) p → WroteUpTo 42 a b p (pair_if (ltb 1 w.paths) w.x1 w.y1) q
      → WroteUpTo 42 b c q (pair_if (ltb 2 w.paths) w.x2 w.y2) r → WroteUpTo 42 c d r (pair_if (ltb 3 w.paths) w.x3 w.y3) s
      → WroteUpTo 168 o d at (pairs_shown w) s
  unfolding pairs_shown
  pairs_wrote one two three four = up_more one (up_more two (up_more three four))

  pub witness_wrote : WroteUpTo 21 o a at (spaced w.context) p → WroteUpTo 21 a b p (spaced w.first) q
      → WroteUpTo 21 b c q (spaced w.second) r → WroteUpTo 168 c d r (pairs_shown w) s → WroteUpTo 231 o d at (numbers_shown (numbers_of w)) s
  unfolding numbers_shown flatten
  witness_wrote one two three four = up_more one (up_more two (up_more three (up_is four (pairs_are w))))

module _ {o a b : List ℕ} {at p q : ℕ} where
  pub drop_wrote : (n r : ℕ) → at + 42 ≤ length o → WroteUpTo 20 o a at (decimal n) p → WroteUpTo 21 a b p (spaced r) q
      → WroteUpTo 42 o (set b q 10) at (drop_line n r) (q + 1)
  unfolding drop_line spaced
  drop_wrote n r room w u = up_is (up_byte (up_more w u) 10 (omega arith)) (append_assoc (decimal n) (spaced r) newline)

  pub salvaged_wrote : {word : List ℕ} (n : ℕ) → at + 42 ≤ length o → word ≡ 115 ∷ 97 ∷ 108 ∷ 118 ∷ 97 ∷ 103 ∷ 101 ∷ 100 ∷ 32 ∷ [] → Wrote o a at word p
      → WroteUpTo 20 a b p (decimal n) q → WroteUpTo 42 o (set b q 10) at (salvaged_line n) (q + 1)
  unfolding salvaged_line
  salvaged_wrote {word} n room e w u =
      let l = ap length e in
      up_is (up_most (up_byte (up_more (up_word 9 w (omega arith)) u) 10 (omega arith)) 42 (omega arith))
      (append_assoc word (decimal n) newline ∙ ap (λ (v : List ℕ). v ++ (decimal n ++ newline)) e)

pub broken_wrote : {o a b c word : List ℕ} {at p q r : ℕ} (n : ℕ) (numbers : List ℕ) → at + 259 ≤ length o → word ≡ 98 ∷ 114 ∷ 111 ∷ 107 ∷ 101 ∷ 110 ∷ 32 ∷ [] → Wrote o a at word p
    → WroteUpTo 20 a b p (decimal n) q → WroteUpTo 231 b c q (numbers_shown numbers) r → WroteUpTo 259 o (set c r 10) at (broken_line n numbers) (r + 1)
unfolding broken_line numbers_shown spaced
broken_wrote {word = word} n numbers room e w u x =
    let l = ap length e in
    up_is (up_byte (up_more (up_word 7 w (omega arith)) (up_more u x)) 10 (omega arith))
    (append_assoc word (decimal n ++ numbers_shown numbers) newline
    ∙ ap₂ (λ (v k : List ℕ). v ++ k) e (append_assoc (decimal n) (numbers_shown numbers) newline))
