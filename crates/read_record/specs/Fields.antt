-- Heads of records: what too_many's tests say, return by return. Numbers of any width, read from the back.
use Prim.Native.Nat.{ℕ, zero, suc, ◌+◌, ◌-◌, ◌*◌, ◌^◌, ◌<◌, ◌≤◌}
use Rattle.std.specs.Prelude.{◌≡◌, false, List, leb, drop}
use Rattle.std.proofs.Math.Path.{sym, ap}
use Rattle.std.proofs.Common.{◌∙◌, drop_of_length-le, drop-cons}
use native.Mathlib.Omega.{arith}
use Rattle.std.proofs.Math.Nat.{pow-zero, pow-suc, pow-le-pow_right}
use Rattle.std.proofs.Math.ListN.{length, get_or}
use borrow.Author.Tests.{le-leb, lt-leb, eq-eqb, ne_eqb}
use Rattle.meaning.specs.Records.{word, number, record_kind}
use Rattle.meaning.specs.Refusals.{too_many}

module _ (l : List ℕ) (kind limit count : ℕ) where
  pub many_short : length l < 4 → false ≡ too_many kind limit count l
  unfolding too_many
  many_short h = rw (lt-leb 4 (length l) h)

  pub many_other : 4 ≤ length l → (word l 2 ≡ kind → ⊥) → false ≡ too_many kind limit count l
  unfolding too_many record_kind
  many_other h n = rw (le-leb 4 (length l) h, ne_eqb (word l 2) kind n)

  pub many_counted : 4 ≤ length l → word l 2 ≡ kind → leb limit count ≡ too_many kind limit count l
  unfolding too_many record_kind
  many_counted h e = rw (le-leb 4 (length l) h, eq-eqb (word l 2) kind e)

-- From byte i on the bytes say n
pub record Numbered (l : List ℕ) (i n : ℕ) : Type 0 where
  pub inside : i ≤ length l
  pub says : n ≡ number (drop i l)
  pub below : n < 256 ^ (length l - i)

four_most : (k : ℕ) → k ≤ 4 → 256 ^ k ≤ 4294967296
four_most k h = pow-le-pow_right (let q : 0 < 256 = omega arith in q) h

module _ (l : List ℕ) (four : length l ≤ 4) where
  pub numbered_none : Numbered l (length l) 0
  unfolding number
  numbered_none =
      let e : length l - length l ≡ 0 = omega arith in
      record {
        inside = omega arith;
        says = sym (ap number (drop_of_length-le l {i = length l} (omega arith)));
        below = let q = ap (λ (k : ℕ). 256 ^ k) e in let p = pow-zero 256 in omega arith;
      }

  pub numbered_small : (i n : ℕ) → Numbered l i n → n < 4294967296
  numbered_small i n c = let b = c.below in let m = four_most (length l - i) (omega arith) in omega arith

  pub numbered_more : (i n b : ℕ) → 0 < i → Numbered l i n → b ≡ get_or l (i - 1) 0 → b < 256 → Numbered l (i - 1) (256 * n + b)
  unfolding number
  numbered_more zero n b h c e s = absurd (omega arith)
  numbered_more (suc i) n b h c e s =
      let at : suc i - 1 ≡ i = omega arith in
      let front : b ≡ get_or l i 0 = e ∙ ap (λ (k : ℕ). get_or l k 0) at in
      let more : length l - i ≡ suc (length l - suc i) = let k = c.inside in omega arith in
      let fits = ap (λ (k : ℕ). 256 ^ k) more ∙ pow-suc 256 (length l - suc i) in
      let is : 256 * n + b ≡ number (drop i l) =
      (let k = c.says in let m = ap number (drop-cons l i 0 (let j = c.inside in omega arith)) in omega arith) in
      record {
        inside = let k = c.inside in omega arith;
        says = is ∙ ap (λ (k : ℕ). number (drop k l)) (sym at);
        below = let q = ap (λ (k : ℕ). 256 ^ (length l - k)) at in let k = c.below in omega arith;
      }

  pub numbered_all : (i n : ℕ) → i ≤ 0 → Numbered l i n → n ≡ number l
  numbered_all i n h c = c.says ∙ ap (λ (k : ℕ). number (drop k l)) (let q : i ≡ 0 = omega arith in q)
