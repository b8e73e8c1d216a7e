-- The normal form, symbol by symbol: an any-path with another behind it is left out.
use Prim.Native.Nat.{ℕ, zero, suc, ◌+◌, ◌<◌, ◌≤◌}
use Rattle.std.specs.Prelude.{◌≡◌, refl, Bool, true, false, not, ◌&&◌, length, take, drop, set}
use Rattle.std.specs.Cmp.Lexicographic.{pointwise}
use Rattle.std.specs.List.{between, starts_with}
use Rattle.std.proofs.lemmas.Slice.{between_to_end}
use Rattle.std.proofs.Common.{nat_eq}
use Rattle.std.proofs.Math.Path.{sym, ap}
use Rattle.std.proofs.Common.{◌∙◌, subst, arith, add-one, drop_of_length-le, drop-cons}
use mathlib.Core.List.{List, [], ◌∷◌, ◌++◌, append_assoc, append-nil}
use Rattle.std.proofs.Math.Dec.{eqb}
use Rattle.std.proofs.Math.ListN.{get_or}
use borrow.Author.Tests.{ne_eqb, not-true, not-false}
use Rattle.meaning.specs.Paths.{norm}
use Rattle.write_bytes.specs.Wrote.{Wrote, wrote_none, wrote_then_byte, wrote_is}

-- two any-paths stand at the front
unfoldable pub leads_doubled : List ℕ → Bool
leads_doubled [] = false
leads_doubled (suc a ∷ p) = false
leads_doubled (zero ∷ []) = false
leads_doubled (zero ∷ zero ∷ p) = true
leads_doubled (zero ∷ suc a ∷ p) = false

unfoldable pub doubled_any : List ℕ → ℕ → Bool
doubled_any path i = leads_doubled (drop i path)

leads_is : (p : List ℕ) → pointwise nat_eq (0 ∷ 0 ∷ []) (take 2 p) ≡ leads_doubled p
unfolding leads_doubled
leads_is [] = refl
leads_is (suc a ∷ p) = ap (λ (b : Bool). b && pointwise nat_eq (0 ∷ []) (take 1 p)) (ne_eqb 0 (suc a) (λ h. let z : 0 ≡ suc a = h in omega arith))
leads_is (zero ∷ []) = refl
leads_is (zero ∷ zero ∷ p) = refl
leads_is (zero ∷ suc a ∷ p) = ap (λ (b : Bool). b && true) (ne_eqb 0 (suc a) (λ h. let z : 0 ≡ suc a = h in omega arith))

-- as the library says what a part of a slice starts with
pub doubled_is : (path : List ℕ) (i : ℕ) → starts_with nat_eq (between i (length path) path) (0 ∷ 0 ∷ []) ≡ doubled_any path i
unfolding doubled_any
doubled_is path i = ap (λ (p : List ℕ). starts_with nat_eq p (0 ∷ 0 ∷ [])) (between_to_end path i (length path) (omega arith)) ∙ leads_is (drop i path)

norm_skip : (s : ℕ) (p : List ℕ) → leads_doubled (s ∷ p) ≡ true → norm (s ∷ p) ≡ norm p
unfolding norm leads_doubled
norm_skip (suc a) p e = absurd (let z : ◌≡◌ {A = ℕ} 0 1 = cc in omega arith)
norm_skip zero [] e = absurd (let z : ◌≡◌ {A = ℕ} 0 1 = cc in omega arith)
norm_skip zero (zero ∷ p) e = refl
norm_skip zero (suc a ∷ p) e = absurd (let z : ◌≡◌ {A = ℕ} 0 1 = cc in omega arith)

norm_keep : (s : ℕ) (p : List ℕ) → leads_doubled (s ∷ p) ≡ false → norm (s ∷ p) ≡ s ∷ norm p
unfolding norm leads_doubled
norm_keep (suc a) p e = refl
norm_keep zero [] e = refl
norm_keep zero (zero ∷ p) e = absurd (let z : ◌≡◌ {A = ℕ} 0 1 = cc in omega arith)
norm_keep zero (suc a ∷ p) e = refl

-- Up to symbol i the path is written in normal form
pub record Normed (out mid : List ℕ) (at : ℕ) (path : List ℕ) (i next : ℕ) : Type 0 where
  pub passed : i ≤ length path
  pub short : next ≤ at + i
  pub kept : length mid ≡ length out
  pub done : List ℕ
  pub wrote : Wrote out mid at done next
  pub rest : done ++ norm (drop i path) ≡ norm path

pub normed_none : (out : List ℕ) (at : ℕ) (path : List ℕ) → at + length path ≤ length out → Normed out out at path 0 at
normed_none out at path h =
    record { passed = omega arith; short = omega arith; kept = refl; done = []; wrote = wrote_none out at (omega arith); rest = refl }

module _ {out mid : List ℕ} {at : ℕ} {path : List ℕ} {i next : ℕ} (n : Normed out mid at path i next) (h : i < length path) where
  pub normed_skip : {r : Bool} → r ≡ doubled_any path i → not r ≡ false → Normed out mid at path (i + 1) next
  unfolding doubled_any
  normed_skip {r} e t =
      record {
        passed = omega arith;
        short = let s = n.short in omega arith;
        kept = n.kept;
        done = n.done;
        wrote = n.wrote;
        rest = ap (λ (l : List ℕ). n.done ++ l)
            (ap (λ (k : ℕ). norm (drop k path)) (add-one i)
            ∙ sym (norm_skip (get_or path i 0) (drop (suc i) path) (ap leads_doubled (sym (drop-cons path i 0 h)) ∙ sym e ∙ not-false r t))
            ∙ ap norm (sym (drop-cons path i 0 h)))
            ∙ n.rest;
      }

  pub normed_more : {r : Bool} → r ≡ doubled_any path i → not r ≡ true → at + length path ≤ length out
      → Normed out (set mid next (get_or path i 0)) at path (i + 1) (next + 1)
  unfolding doubled_any
  normed_more {r} e t room =
      let w = wrote_then_byte (get_or path i 0) n.wrote (let a = n.wrote.after in let s = n.short in omega arith) in
      record {
        passed = omega arith;
        short = let s = n.short in omega arith;
        kept = w.kept;
        done = n.done ++ (get_or path i 0 ∷ []);
        wrote = w;
        rest = append_assoc n.done (get_or path i 0 ∷ []) (norm (drop (i + 1) path))
            ∙ ap (λ (l : List ℕ). n.done ++ l)
            (ap (λ (k : ℕ). get_or path i 0 ∷ norm (drop k path)) (add-one i)
            ∙ sym (norm_keep (get_or path i 0) (drop (suc i) path) (ap leads_doubled (sym (drop-cons path i 0 h)) ∙ sym e ∙ not-true r t))
            ∙ ap norm (sym (drop-cons path i 0 h)))
            ∙ n.rest;
      }

pub normed_all : {out mid : List ℕ} {at : ℕ} {path : List ℕ} {i next : ℕ} → Normed out mid at path i next → length path ≤ i → Wrote out mid at (norm path) next
unfolding norm
normed_all {path = path} {i} n h =
    wrote_is (sym (append-nil n.done) ∙ ap (λ (l : List ℕ). n.done ++ norm l) (sym (drop_of_length-le path {i = i} h)) ∙ n.rest) n.wrote

pub normed_is : {out mid end : List ℕ} {at : ℕ} {path : List ℕ} {i next last : ℕ} → end ≡ mid → last ≡ next → Normed out mid at path i next
    → Normed out end at path i last
normed_is {out} {mid} {at = at} {path} {i} {last = last} e f n =
    subst (λ (l : List ℕ). Normed out l at path i last) (sym e) (subst (λ (k : ℕ). Normed out mid at path i k) (sym f) n)
