-- A buffer that begins with what was written, the rest of it as it was; and a part of it lent on to write more.
use Rattle.std.specs.Prelude.{ℕ, ◌+◌, ◌-◌, ◌≤◌, ◌≡◌, refl, List, [], ◌++◌, length, take, drop}
use Rattle.std.proofs.Common.{sym, ap, ap₂, ◌∙◌, append_assoc, append-nil, arith, length-append, length-drop, drop_of_length-le, take_at, drop_at, drop-drop}
use borrow.Author.Rules.{part_to_end}
use borrow.Rule.Slice.PartMut.{put_mid}

pub record Front (before after written : List ℕ) : Type 0 where
  pub fits : length written ≤ length before
  pub is : after ≡ written ++ drop (length written) before

pub front_none : (l : List ℕ) → Front l l []
front_none l = record { fits = omega arith; is = refl }

pub front_length : {before after v : List ℕ} → Front before after v → length after ≡ length before
front_length {before} {after} {v} f =
    let a = ap length f.is ∙ length-append v (drop (length v) before) in
    let b = length-drop (length v) before in
    let c = f.fits in
    omega arith

-- the rest is lent from where the written ends
pub front_more : {before after v w ys : List ℕ} (at : ℕ) → Front before after v → at ≡ length v → Front (take (length after - at) (drop at after)) ys w
    → Front before (put_mid at (length after - at) after ys) (v ++ w)
front_more {before} {after} {v} {w} {ys} at f e g =
    record {
      fits =
          let a = length-append v w in
          let b = g.fits in
          let c = ap length (part_to_end after at) ∙ length-drop at after in
          let d = front_length f in
          let h = f.fits in
          omega arith;
      is =
          ap₂ (λ (xs zs : List ℕ). xs ++ (ys ++ zs)) front behind
          ∙ ap (λ (l : List ℕ). v ++ l) (append-nil ys ∙ g.is ∙ ap (λ (l : List ℕ). w ++ drop (length w) l) rest ∙ ap (λ (l : List ℕ). w ++ l) (drop-drop (length w) (length v) before))
          ∙ sym (append_assoc v w (drop (length v + length w) before))
          ∙ ap (λ (k : ℕ). (v ++ w) ++ drop k before) (sym (length-append v w));
    }
  where
    front : take at after ≡ v
    front = ap (take at) f.is ∙ take_at v (drop (length v) before) at (sym e)

    behind : drop (length after - at) (drop at after) ≡ []
    behind = drop_of_length-le (drop at after) {i = length after - at} (let d = length-drop at after in omega arith)

    rest : take (length after - at) (drop at after) ≡ drop (length v) before
    rest = part_to_end after at ∙ ap (drop at) f.is ∙ drop_at v (drop (length v) before) at (sym e)

pub front_same : {before after v w : List ℕ} → v ≡ w → Front before after v → Front before after w
front_same {before} {after} e f =
    record { fits = let a = ap length e in let b = f.fits in omega arith; is = f.is ∙ ap (λ (l : List ℕ). l ++ drop (length l) before) e }
