-- Bytes written into a lent buffer from a place on; what stands before and behind them stays.
use Rattle.std.specs.Prelude.{ℕ, ◌+◌, ◌≤◌, ◌≡◌, refl, List, [], ◌∷◌, ◌++◌, length, take, drop, set}
use Rattle.std.proofs.Common.{sym, ◌∙◌, ap, ap₂, subst, append_assoc, arith, zero-add, add-one, length-append, length-drop, take-append-drop, take_at, length-take-le, drop-drop}
use Rattle.std.proofs.lemmas.List.{set_split}
use Rattle.std.proofs.Math.Seq.{drop-append-add}

unfoldable pub written : List ℕ → ℕ → List ℕ → List ℕ
written out at v = take at out ++ (v ++ drop (at + length v) out)

-- The buffer at the end has v from the place on, and the next place is behind it
pub record Wrote (out end : List ℕ) (at : ℕ) (v : List ℕ) (next : ℕ) : Type 0 where
  pub after : next ≡ at + length v
  pub room : at + length v ≤ length out
  pub kept : length end ≡ length out
  pub bytes : end ≡ written out at v

pub written_length : (out : List ℕ) (at : ℕ) (v : List ℕ) → at + length v ≤ length out → length (written out at v) ≡ length out
unfolding written
written_length out at v h = simp (length-append, length-drop) (rw (length-take-le at out (omega arith)) (omega arith))

pub wrote_as : {out end v : List ℕ} {at next : ℕ} → next ≡ at + length v → at + length v ≤ length out → end ≡ written out at v → Wrote out end at v next
wrote_as {out} {v = v} {at} a r b = record { after = a; room = r; kept = ap length b ∙ written_length out at v r; bytes = b }

pub written_twice : (out : List ℕ) (at : ℕ) (v w : List ℕ) → at + length v + length w ≤ length out
    → written (written out at v) (at + length v) w ≡ written out at (v ++ w)
unfolding written
written_twice out at v w h =
    let n = length-take-le at out (omega arith) in
    let whole : at + length v + length w ≡ at + length (v ++ w) = let e = length-append v w in omega arith in
    let p : length (take at out ++ v) ≡ at + length v = length-append (take at out) v ∙ ap (λ (k : ℕ). k + length v) n in
    let x : take at out ++ (v ++ drop (at + length v) out) ≡ (take at out ++ v) ++ drop (at + length v) out =
    sym (append_assoc (take at out) v (drop (at + length v) out)) in
    let front = ap (take (at + length v)) x ∙ take_at (take at out ++ v) (drop (at + length v) out) (at + length v) p in
    let rear : drop (at + length v + length w) (take at out ++ (v ++ drop (at + length v) out)) ≡ drop (at + length (v ++ w)) out =
    ap (drop (at + length v + length w)) x
    ∙ ap (λ (k : ℕ). drop (k + length w) ((take at out ++ v) ++ drop (at + length v) out)) (sym p)
    ∙ drop-append-add (take at out ++ v) (drop (at + length v) out) (length w) ∙ drop-drop (length w) (at + length v) out
    ∙ ap (λ (k : ℕ). drop k out) whole in
    ap₂ (λ (a b : List ℕ). a ++ (w ++ b)) front rear ∙ append_assoc (take at out) v (w ++ drop (at + length (v ++ w)) out)
    ∙ ap (λ (b : List ℕ). take at out ++ b) (sym (append_assoc v w (drop (at + length (v ++ w)) out)))

-- one writing after another
pub wrote_more : {out mid end v w : List ℕ} {at next last : ℕ} → Wrote out mid at v next → Wrote mid end next w last → Wrote out end at (v ++ w) last
wrote_more {out} {v = v} {w} {at} a b =
    let e = length-append v w in
    let fits : at + length v + length w ≤ length out = omega arith in
    wrote_as (omega arith) (omega arith)
    (b.bytes ∙ ap₂ (λ (m : List ℕ) (k : ℕ). written m k w) a.bytes a.after ∙ written_twice out at v w fits)

pub wrote_none : (out : List ℕ) (at : ℕ) → at ≤ length out → Wrote out out at [] at
unfolding written
wrote_none out at h =
    let e : at + 0 ≡ at = omega arith in
    wrote_as (sym e) (omega arith) (sym (ap (λ (k : ℕ). take at out ++ drop k out) e ∙ take-append-drop at out))

pub wrote_byte : (out : List ℕ) (at b : ℕ) → at + 1 ≤ length out → Wrote out (set out at b) at (b ∷ []) (at + 1)
unfolding written
wrote_byte out at b h =
    wrote_as refl h (set_split out at b (omega arith) ∙ ap (λ (k : ℕ). take at out ++ (b ∷ drop k out)) (sym (add-one at)))

-- the same bytes, otherwise written
pub wrote_is : {out end v w : List ℕ} {at next : ℕ} → v ≡ w → Wrote out end at v next → Wrote out end at w next
wrote_is {out} {end} {at = at} {next} e w = subst (λ (u : List ℕ). Wrote out end at u next) e w

pub wrote_then_byte : {out mid v : List ℕ} {at next : ℕ} (b : ℕ) → Wrote out mid at v next → at + length v + 1 ≤ length out
    → Wrote out (set mid next b) at (v ++ (b ∷ [])) (next + 1)
wrote_then_byte {mid = mid} {next = next} b w h = wrote_more w (wrote_byte mid next b (omega arith))

-- two bytes
pub wrote_two : (out : List ℕ) (at a b : ℕ) → at + 2 ≤ length out → Wrote out (set (set out at a) (at + 1) b) at (a ∷ b ∷ []) (at + 2)
wrote_two out at a b h =
    let two : at + 1 + 1 ≡ at + 2 = omega arith in
    subst (Wrote out (set (set out at a) (at + 1) b) at (a ∷ b ∷ [])) two
    (wrote_then_byte b (wrote_byte out at a (omega arith)) (let z : at + 1 + 1 ≤ length out = omega arith in z))

-- From the front of a buffer: what was written is the part up to the next place
pub wrote_part : {out end v : List ℕ} {next : ℕ} → Wrote out end 0 v next → take next end ≡ v
unfolding written
wrote_part {out} {end} {v} {next} w =
    let e : next ≡ length v = omega arith in
    ap₂ (λ (n : ℕ) (l : List ℕ). take n l) e w.bytes ∙ take_at v (drop (0 + length v) out) (length v) refl

pub part_length : {out end v : List ℕ} {next : ℕ} → Wrote out end 0 v next → length (take next end) ≡ next
part_length w = ap length (wrote_part w) ∙ (omega arith)

-- its length, and the bytes with the rest behind them
pub wrote_front : {out after v : List ℕ} {used : ℕ} → Wrote out after 0 v used → (used ≡ length v) × (after ≡ v ++ drop (length v) out)
unfolding written
wrote_front {out} {v = v} w = (w.after ∙ zero-add (length v), w.bytes ∙ ap (λ (n : ℕ). v ++ drop n out) (zero-add (length v)))
