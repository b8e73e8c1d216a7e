-- The lines of a report one after the other; one law for each return of the writers.
use Rattle.std.specs.Prelude.{ℕ, zero, suc, ◌+◌, ◌-◌, ◌*◌, ◌<◌, ◌≤◌, ◌≡◌, refl, Some, Bool, true, false, cond, ltb, length, get_or}
use Rattle.std.proofs.Common.{sym, ◌∙◌, ap, ap₂, subst, arith, add-zero, lt-ltb, le-ltb}
use mathlib.Core.List.{List, [], ◌∷◌, ◌++◌, map, flatten, append_assoc, append-nil}
use Rattle.meaning.specs.Lists.{numbers, keep}
use Rattle.meaning.specs.Listing.{decimal, newline}
use Rattle.meaning.specs.Campaign.{key_line, refusal_line, occurred, report_bytes}
use Rattle.meaning.specs.Tally.{Tally, counts_of}
use Rattle.write_bytes.specs.Wrote.{Wrote, wrote_more, wrote_none, wrote_is}
use Rattle.write_listing.specs.Lines.{field, field_of, field_some, field_length}

-- Lines of so many numbers, from a number on
unfoldable pub lines_from : (ℕ → List ℕ) → ℕ → ℕ → List ℕ
lines_from f start count = flatten (map f (numbers count start))

lines_next : (f : ℕ → List ℕ) (start count : ℕ) → lines_from f start (suc count) ≡ lines_from f start count ++ f (start + count)
unfolding lines_from numbers flatten
lines_next f start zero = append-nil (f start) ∙ ap f (sym (add-zero start))
lines_next f start (suc count) =
    ap (λ (l : List ℕ). f start ++ l) (lines_next f (suc start) count)
    ∙ (sym (append_assoc (f start) (flatten (map f (numbers count (suc start)))) (f (suc start + count)))
    ∙ ap (λ (n : ℕ). (f start ++ flatten (map f (numbers count (suc start)))) ++ f n) (step start count))
  where
    step : (a b : ℕ) → suc a + b ≡ a + suc b
    step a b = omega arith

lines_same : (f g : ℕ → List ℕ) (start count : ℕ) → ((n : ℕ) → f n ≡ g n) → lines_from f start count ≡ lines_from g start count
unfolding lines_from numbers flatten
lines_same f g start zero e = refl
lines_same f g start (suc count) e = ap₂ (λ (x y : List ℕ). x ++ y) (e start) (lines_same f g (suc start) count e)

-- A key's line as fields
unfoldable pub three_fields : ℕ → ℕ → ℕ → List ℕ
three_fields n kept broken = field true n 32 ++ (field true kept 32 ++ field true broken 10)

unfoldable pub key_fields : List ℕ → List ℕ → ℕ → List ℕ
key_fields kept broken n = three_fields n (get_or kept n 0) (get_or broken n 0)

key_fields_lem : (t : Tally) (n : ℕ) → key_fields t.kept t.broken n ≡ key_line (counts_of t) n
unfolding key_fields three_fields field key_line counts_of
key_fields_lem t n = simp (append_assoc)

-- A refusal's line as fields, where it occurred
unfoldable pub two_fields : ℕ → ℕ → List ℕ
two_fields number count = cond (ltb 0 count) (field true number 32 ++ field true count 10) []

unfoldable pub refusal_fields : List ℕ → ℕ → List ℕ
refusal_fields refused number = two_fields number (get_or refused number 0)

refusal_fields_lem : (t : Tally) (start count : ℕ)
    → lines_from (refusal_fields t.refused) start count
    ≡ flatten (map (refusal_line (counts_of t)) (keep (λ (number : ℕ). ltb 0 ((counts_of t).refused number)) (numbers count start)))
unfolding lines_from numbers flatten keep refusal_fields two_fields field refusal_line counts_of
refusal_fields_lem t start zero = refl
refusal_fields_lem t start (suc count) = go (ltb 0 (get_or t.refused start 0)) (refusal_fields_lem t (suc start) count)
  where
    rest : List ℕ
    rest = keep (λ (number : ℕ). ltb 0 ((counts_of t).refused number)) (numbers count (suc start))

    line : List ℕ
    line = (decimal start ++ (32 ∷ [])) ++ (decimal (get_or t.refused start 0) ++ (10 ∷ []))

    go : (b : Bool) → lines_from (refusal_fields t.refused) (suc start) count ≡ flatten (map (refusal_line (counts_of t)) rest)
        → cond b line [] ++ lines_from (refusal_fields t.refused) (suc start) count ≡ flatten (map (refusal_line (counts_of t)) (cond b (start ∷ rest) rest))
    go true e = ap₂ (λ (x y : List ℕ). x ++ y) (append_assoc (decimal start) (32 ∷ []) (decimal (get_or t.refused start 0) ++ (10 ∷ []))) e
    go false e = e

-- One line written
pub record ThreeWritten (out end : List ℕ) (at n kept broken next : ℕ) : Type 0 where
  pub wrote : Wrote out end at (three_fields n kept broken) next
  pub short : next ≤ at + 33

pub record TwoWritten (out end : List ℕ) (at number count next : ℕ) : Type 0 where
  pub wrote : Wrote out end at (two_fields number count) next
  pub short : next ≤ at + 22

-- a number from another type
pub field_as : {out end : List ℕ} {at next n m : ℕ} (byte : ℕ) → m ≡ n → Wrote out end at (field_of (Some m) byte) next
    → Wrote out end at (field_of (Some n) byte) next
field_as byte e = wrote_is (ap (λ (k : ℕ). field_of (Some k) byte) e)

-- the place and the room behind a field
pub field_place : {out mid : List ℕ} {at next : ℕ} (n end : ℕ) → n < 4294967296 → Wrote out mid at (field_of (Some n) end) next → next ≤ at + 11
field_place n end small w = let l = field_length true n end small in let a = (wrote_is (field_some n end) w).after in omega arith

pub field_room : {out mid : List ℕ} {at next : ℕ} (n end k : ℕ) → n < 4294967296 → Wrote out mid at (field_of (Some n) end) next → at + 11 + k ≤ length out → next + k ≤ length mid
field_room n end k small w h = let p = field_place n end small w in let e = w.kept in omega arith

pub three_written : {o a b c : List ℕ} {at p q r n kept broken : ℕ} → n < 4294967296 → kept < 4294967296 → broken < 4294967296
    → Wrote o a at (field_of (Some n) 32) p → Wrote a b p (field_of (Some kept) 32) q → Wrote b c q (field_of (Some broken) 10) r → ThreeWritten o c at n kept broken r
unfolding three_fields
three_written {n = n} {kept} {broken} ns ks bs w w₂ w₃ =
    let x = field_place n 32 ns w in
    let y = field_place kept 32 ks w₂ in
    let z = field_place broken 10 bs w₃ in
    record { wrote = wrote_more (wrote_is (field_some n 32) w) (wrote_more (wrote_is (field_some kept 32) w₂) (wrote_is (field_some broken 10) w₃)); short = omega arith }

pub two_none : (o : List ℕ) (at number count : ℕ) → at + 22 ≤ length o → count ≡ 0 → TwoWritten o o at number count at
unfolding two_fields
two_none o at number count room e =
    record { wrote = wrote_is (rw (le-ltb 0 count (omega arith)) refl) (wrote_none o at (omega arith)); short = omega arith }

pub two_written : {o a b : List ℕ} {at p q number count : ℕ} → number < 4294967296 → count < 4294967296 → (count ≡ 0 → ⊥)
    → Wrote o a at (field_of (Some number) 32) p → Wrote a b p (field_of (Some count) 10) q → TwoWritten o b at number count q
unfolding two_fields
two_written {number = number} {count} ns cs some w w₂ =
    let x = field_place number 32 ns w in
    let y = field_place count 10 cs w₂ in
    record { wrote = wrote_is (rw (lt-ltb 0 count (omega arith)) refl) (wrote_more (wrote_is (field_some number 32) w) (wrote_is (field_some count 10) w₂)); short = omega arith }

-- The lines of the first n keys
pub record KeysWritten (out end : List ℕ) (n : ℕ) (kept broken : List ℕ) (at : ℕ) : Type 0 where
  pub wrote : Wrote out end 0 (lines_from (key_fields kept broken) 0 n) at
  pub short : at ≤ 33 * n

pub keys_none : (out kept broken : List ℕ) → KeysWritten out out 0 kept broken 0
unfolding lines_from numbers flatten
keys_none out kept broken = record { wrote = wrote_none out 0 (omega arith); short = omega arith }

pub keys_more : {out mid end kept broken : List ℕ} {n at next : ℕ} → KeysWritten out mid n kept broken at
    → ThreeWritten mid end at n (get_or kept n 0) (get_or broken n 0) next → KeysWritten out end (n + 1) kept broken next
unfolding key_fields
keys_more {kept = kept} {broken} {n} w l =
    record {
      wrote = wrote_is (sym (ap (lines_from (key_fields kept broken) 0) (one_more n) ∙ lines_next (key_fields kept broken) 0 n ∙ ap (λ (m : ℕ). lines_from (key_fields kept broken) 0 n ++ key_fields kept broken m) (none_more n)))
          (wrote_more w.wrote l.wrote);
      short = let a = w.short in let b = l.short in omega arith;
    }
  where
    one_more : (a : ℕ) → a + 1 ≡ suc a
    one_more a = omega arith

    none_more : (a : ℕ) → 0 + a ≡ a
    none_more a = omega arith

pub keys_room : {out end kept broken : List ℕ} {n at : ℕ} → KeysWritten out end n kept broken at → n < 64 → 65536 ≤ length out → at + 33 ≤ length end
keys_room w h room = let a = w.short in let e = w.wrote.kept in omega arith

pub keys_all : {out end kept broken : List ℕ} {n keys at : ℕ} → KeysWritten out end n kept broken at → n ≤ keys → keys ≤ n → KeysWritten out end keys kept broken at
keys_all {out} {end} {kept} {broken} {at = at} w low high = subst (λ (k : ℕ). KeysWritten out end k kept broken at) (omega arith) w

-- The lines of the refusal numbers below a number
pub record RefusalsTo (out end : List ℕ) (start number : ℕ) (refused : List ℕ) (at : ℕ) : Type 0 where
  pub wrote : Wrote out end start (lines_from (refusal_fields refused) 1 (number - 1)) at
  pub short : at + 22 ≤ start + 22 * number
  pub some : 1 ≤ number

pub refusals_none : (out : List ℕ) (start : ℕ) (refused : List ℕ) → start + 440 ≤ length out → RefusalsTo out out start 1 refused start
unfolding lines_from numbers flatten
refusals_none out start refused h = record { wrote = wrote_none out start (omega arith); short = omega arith; some = omega arith }

pub refusals_more : {out mid end refused : List ℕ} {start number at next : ℕ} → RefusalsTo out mid start number refused at
    → TwoWritten mid end at number (get_or refused number 0) next → RefusalsTo out end start (number + 1) refused next
unfolding refusal_fields
refusals_more {refused = refused} {number = number} w l =
    let e : number + 1 - 1 ≡ suc (number - 1) = let s = w.some in omega arith in
    let f : 1 + (number - 1) ≡ number = let s = w.some in omega arith in
    record {
      wrote = wrote_is
          (sym (ap (lines_from (refusal_fields refused) 1) e ∙ lines_next (refusal_fields refused) 1 (number - 1)
          ∙ ap (λ (m : ℕ). lines_from (refusal_fields refused) 1 (number - 1) ++ refusal_fields refused m) f))
          (wrote_more w.wrote l.wrote);
      short = let a = w.short in let b = l.short in omega arith;
      some = omega arith;
    }

pub refusals_room : {out end refused : List ℕ} {start number at : ℕ} → RefusalsTo out end start number refused at → number < 20 → start + 440 ≤ length out → at + 22 ≤ length end
refusals_room w h room = let a = w.short in let e = w.wrote.kept in omega arith

pub refusals_all : {out end refused : List ℕ} {start number at : ℕ} → RefusalsTo out end start number refused at → number ≤ 20 → 20 ≤ number → RefusalsTo out end start 20 refused at
refusals_all {out} {end} {refused} {start} {at = at} w low high = subst (λ (k : ℕ). RefusalsTo out end start k refused at) (omega arith) w

-- The whole report
pub report_written : {o a b c d word : List ℕ} {keys p q r s : ℕ} (t : Tally) → KeysWritten o a keys t.kept t.broken p → RefusalsTo a b p 20 t.refused q
    → word ≡ 117 ∷ 110 ∷ 114 ∷ 101 ∷ 97 ∷ 100 ∷ 32 ∷ [] → Wrote b c q word r → Wrote c d r (field_of (Some t.unread) 10) s
    → Wrote o d 0 (report_bytes keys (counts_of t)) s
unfolding report_bytes occurred field flatten lines_from counts_of
report_written {word = word} {keys = keys} t w w₂ e w₃ w₄ =
    let first : lines_from (key_fields t.kept t.broken) 0 keys ≡ flatten (map (key_line (counts_of t)) (numbers keys 0)) =
    lines_same (key_fields t.kept t.broken) (key_line (counts_of t)) 0 keys (key_fields_lem t) in
    let second = refusal_fields_lem t 1 19 in
    let third : word ++ (decimal t.unread ++ (10 ∷ [])) ≡ (117 ∷ 110 ∷ 114 ∷ 101 ∷ 97 ∷ 100 ∷ 32 ∷ []) ++ (decimal t.unread ++ newline) =
    ap (λ (x : List ℕ). x ++ (decimal t.unread ++ (10 ∷ []))) e in
    wrote_is (ap₂ (λ (x y : List ℕ). x ++ y) first (ap₂ (λ (x y : List ℕ). x ++ y) second third))
    (wrote_more w.wrote (wrote_more w₂.wrote (wrote_more w₃ (wrote_is (field_some t.unread 10) w₄))))

-- the room behind the lines
pub keys_behind : {out end kept broken : List ℕ} {keys at : ℕ} → KeysWritten out end keys kept broken at → keys ≤ 64 → 65536 ≤ length out → at + 440 ≤ length end
keys_behind w few room = let a = w.short in let e = w.wrote.kept in omega arith

pub refusals_behind : {o a b kept broken refused : List ℕ} {keys p q : ℕ} → KeysWritten o a keys kept broken p → RefusalsTo a b p 20 refused q → keys ≤ 64
    → 65536 ≤ length o → q + 18 ≤ length b
refusals_behind w w₂ few room =
    let x = w.short in
    let y = w₂.short in
    let e = w.wrote.kept in
    let f = w₂.wrote.kept in
    omega arith
