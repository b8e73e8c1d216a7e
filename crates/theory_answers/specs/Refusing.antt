-- Refusals that come one after the other: the first that refuses is the answer, and where none does the rest of the definition speaks.
use Rattle.std.specs.Prelude.{ℕ, zero, suc, ◌≤◌, ◌<◌, ◌≡◌, refl, Bool, true, false, cond, List, [], ◌∷◌, ◌++◌, eqb, length}
use Rattle.std.proofs.Common.{sym, ◌∙◌, ap, subst, arith}
use borrow.Author.Tests.{le-ltb, lt-ltb, eq-eqb, ne_eqb}
use Rattle.meaning.specs.Limits.{answer_bytes}
use Rattle.meaning.specs.Paths.{Label}
use Rattle.meaning.specs.Refusals.{Refusal, sound, first_refusal, oversize, answer_refusal, profile_refusal, question_refusal, tree_refusal}
use Rattle.meaning.specs.Operations.{Answer, Unless, choose, refused_by}

-- where no refusal stands, the answer is what Q says of it
pub unless_sound : (rs : List Refusal) (buffer : List ℕ) (Q : Answer → Type 0) (answer : Answer) → (first_refusal rs).number ≡ 0 → Q answer
    → Unless rs buffer Q answer
unfolding Unless choose
unless_sound rs buffer Q answer e q = subst (λ (n : ℕ). choose n (Q answer) (answer ≡ refused_by (first_refusal rs) buffer)) (sym e) q

-- a list that does not refuse says no input
pub first_sound : (rs : List Refusal) → (first_refusal rs).number ≡ 0 → first_refusal rs ≡ sound
unfolding first_refusal
first_sound [] e = refl
first_sound (r ∷ rs) e = go (eqb r.number 0) refl e (first_sound rs)
  where
    go : (b : Bool) → eqb r.number 0 ≡ b → (cond b (first_refusal rs) r).number ≡ 0 → ((first_refusal rs).number ≡ 0 → first_refusal rs ≡ sound)
        → cond b (first_refusal rs) r ≡ sound
    go true t e more = more e
    go false t e more = absurd (borrow.Author.Tests.eqb-false r.number 0 t e)

pub choose_refused : (n : ℕ) (Q R : Type 0) → (n ≡ 0 → ⊥) → R → choose n Q R
unfolding choose
choose_refused zero Q R h r = absurd (h refl)
choose_refused (suc n) Q R h r = r

-- the first refusal, which names its input, is the answer
pub unless_refused : (rs : List Refusal) (buffer : List ℕ) (Q : Answer → Type 0) (r : Refusal) → first_refusal rs ≡ r → 0 < r.input
    → Unless rs buffer Q (refused_by r buffer)
unfolding Unless
unless_refused rs buffer Q r e named =
    choose_refused (first_refusal rs).number _ _ refuses (ap (λ (x : Refusal). refused_by x buffer) (sym e))
  where
    refuses : (first_refusal rs).number ≡ 0 → ⊥
    refuses z =
        let i : r.input ≡ 0 = ap (λ (x : Refusal). x.input) (sym e ∙ first_sound rs z) in
        omega arith

-- .. and where none stands it is what Q says
pub unless_says : (rs : List Refusal) (buffer : List ℕ) (Q : Answer → Type 0) (answer : Answer) → (first_refusal rs).number ≡ 0 → Unless rs buffer Q answer
    → Q answer
unfolding Unless choose
unless_says rs buffer Q answer e = go (first_refusal rs).number e
  where
    go : (n : ℕ) → n ≡ 0 → choose n (Q answer) (answer ≡ refused_by (first_refusal rs) buffer) → Q answer
    go zero z q = q
    go (suc n) z q = absurd (omega arith)

pub sound_more : (r : Refusal) (rs : List Refusal) → r.number ≡ 0 → (first_refusal rs).number ≡ 0 → (first_refusal (r ∷ rs)).number ≡ 0
unfolding first_refusal
sound_more r rs e f = rw (eq-eqb r.number 0 e) f

pub sound_end : (first_refusal []).number ≡ 0
unfolding first_refusal
sound_end = refl

-- a sound input is passed over
pub first_passes : (r : Refusal) (rs : List Refusal) → r.number ≡ 0 → first_refusal (r ∷ rs) ≡ first_refusal rs
unfolding first_refusal
first_passes r rs e = rw (eq-eqb r.number 0 e) refl

pub first_stops : (r : Refusal) (rs : List Refusal) → (r.number ≡ 0 → ⊥) → first_refusal (r ∷ rs) ≡ r
unfolding first_refusal
first_stops r rs h = rw (ne_eqb r.number 0 h) refl

pub fits_size : (input limit : ℕ) (bytes : List ℕ) → length bytes ≤ limit → (oversize input limit bytes).number ≡ 0
unfolding oversize
fits_size input limit bytes h = rw (le-ltb limit (length bytes) h) refl

pub answer_small : (buffer : List ℕ) → length buffer < 65536 → answer_refusal buffer ≡ record { number = 14; input = 4; place = 0 }
unfolding answer_refusal
answer_small buffer h = rw (lt-ltb (length buffer) answer_bytes h) refl

pub answer_large : (buffer : List ℕ) → 65536 ≤ length buffer → (answer_refusal buffer).number ≡ 0
unfolding answer_refusal
answer_large buffer h = rw (le-ltb (length buffer) answer_bytes h) refl

-- a refusal that refuses nothing names nothing
unfoldable pub Settled : Refusal → Type 0
Settled r = r.number ≡ 0 → r ≡ sound

pub first_settled : (rs : List Refusal) → Settled (first_refusal rs)
unfolding Settled
first_settled rs = first_sound rs

pub profile_settled : (bytes : List ℕ) → Settled (profile_refusal bytes)
unfolding profile_refusal
profile_settled bytes = first_settled _

pub question_settled : (labels : List Label) (bytes : List ℕ) → Settled (question_refusal labels bytes)
unfolding question_refusal
question_settled labels bytes = first_settled _

pub tree_settled : (second : Bool) (labels : List Label) (bytes : List ℕ) → Settled (tree_refusal second labels bytes)
unfolding tree_refusal
tree_settled second labels bytes = first_settled _

-- a refusal that names its input refuses, and is the first
pub named_refuses : (r s : Refusal) → Settled s → r ≡ s → 0 < r.input → s.number ≡ 0 → ⊥
unfolding Settled
named_refuses r s settled e named z = let i : r.input ≡ 0 = ap (λ (x : Refusal). x.input) (e ∙ settled z) in omega arith

pub first_named : (r s : Refusal) (rs : List Refusal) → Settled s → r ≡ s → 0 < r.input → first_refusal (s ∷ rs) ≡ r
first_named r s rs settled e named = first_stops s rs (named_refuses r s settled e named) ∙ sym e

-- a sound input is passed over
pub sound_number : {s : Refusal} → sound ≡ s → s.number ≡ 0
sound_number e = ap (λ (x : Refusal). x.number) (sym e)

-- what is said behind a sound input is said with it
pub unless_passes : (r : Refusal) (rs : List Refusal) (buffer : List ℕ) (Q : Answer → Type 0) (answer : Answer) → r.number ≡ 0 → Unless rs buffer Q answer
    → Unless (r ∷ rs) buffer Q answer
unfolding Unless
unless_passes r rs buffer Q answer e u =
    subst (λ (x : Refusal). choose x.number (Q answer) (answer ≡ refused_by x buffer)) (sym (first_passes r rs e)) u

-- the first refusal of some inputs, which names one, is the first with more behind them
pub first_more : (rs more : List Refusal) (r : Refusal) → first_refusal rs ≡ r → 0 < r.input → first_refusal (rs ++ more) ≡ r
unfolding first_refusal
first_more [] more r e named = let i : r.input ≡ 0 = ap (λ (x : Refusal). x.input) (sym e) in absurd (omega arith)
first_more (s ∷ rs) more r e named = go (eqb s.number 0) e (λ h. first_more rs more r h named)
  where
    go : (b : Bool) → cond b (first_refusal rs) s ≡ r → (first_refusal rs ≡ r → first_refusal (rs ++ more) ≡ r) → cond b (first_refusal (rs ++ more)) s ≡ r
    go true h behind = behind h
    go false h behind = h

-- 14, before all else
pub unless_small : (rs : List Refusal) (buffer : List ℕ) (Q : Answer → Type 0) → length buffer < 65536
    → Unless (answer_refusal buffer ∷ rs) buffer Q (refused_by (record { number = 14; input = 4; place = 0 }) buffer)
unless_small rs buffer Q h =
    let e = answer_small buffer h in
    unless_refused (answer_refusal buffer ∷ rs) buffer Q (record { number = 14; input = 4; place = 0 })
    (first_stops (answer_refusal buffer) rs (λ z. let n : 14 ≡ 0 = sym (ap (λ (r : Refusal). r.number) e) ∙ z in omega arith) ∙ e) (omega arith)

-- 14 does not stand where the buffer has room
pub unless_room : (rs : List Refusal) (buffer : List ℕ) (Q : Answer → Type 0) (answer : Answer) → 65536 ≤ length buffer → Unless rs buffer Q answer
    → Unless (answer_refusal buffer ∷ rs) buffer Q answer
unless_room rs buffer Q answer room u = unless_passes (answer_refusal buffer) rs buffer Q answer (answer_large buffer room) u
