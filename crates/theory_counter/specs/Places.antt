-- The numbers of the written tree: where each pattern node and its filler stand, once in the trunk, twice below it.
use Rattle.std.specs.Prelude.{ℕ, zero, suc, ◌+◌, ◌-◌, ◌≤◌, ◌<◌, ◌≡◌, refl, Bool, true, false, cond, ◌&&◌, T, ltb}
use Rattle.std.proofs.Common.{ap, ◌∙◌, arith, ltb→lt, lt→ltb}
use Rattle.std.proofs.Math.Bool.{and-false, and-true}
use Rattle.std.proofs.Math.Decide.{dec_lt}
use Rattle.meaning.specs.Paths.{Class, is_element}
use Rattle.meaning.specs.Trees.{Table}
use Rattle.theory_lists.specs.Bools.{true_of, false_of}
use Rattle.theory_counter.specs.Doubled.{Stands}

unfoldable pub bit : Bool → ℕ
bit false = 0
bit true = 1

-- a node below u stands `gap` numbers further on in the second copy
unfoldable pub shift : ℕ → ℕ → Bool → ℕ → ℕ
shift u gap s x = cond (s && ltb u x) gap 0

unfoldable pub number_of : (ℕ → ℕ) → ℕ → ℕ → Bool → ℕ → Bool → ℕ
number_of place u gap s x f = place x + bit f + shift u gap s x

pub shift_trunk : (u gap : ℕ) (s : Bool) (x : ℕ) → x ≤ u → shift u gap s x ≡ 0
unfolding shift
shift_trunk u gap s x h =
    ap (λ (b : Bool). cond (s && b) gap 0) (false_of (ltb u x) (λ t. let q = ltb→lt u x t in omega arith))
    ∙ ap (λ (b : Bool). cond b gap 0) (and-false s)

pub shift_below : (u gap : ℕ) (s : Bool) (x : ℕ) → u < x → shift u gap s x ≡ cond s gap 0
unfolding shift
shift_below u gap s x h =
    ap (λ (b : Bool). cond (s && b) gap 0) (true_of (ltb u x) (lt→ltb u x h)) ∙ ap (λ (b : Bool). cond b gap 0) (and-true s)

pub shift_first : (u gap x : ℕ) → shift u gap false x ≡ 0
unfolding shift
shift_first u gap x = refl

bit_same : (f g : Bool) → bit f ≡ bit g → f ≡ g
unfolding bit
bit_same false false e = refl
bit_same false true e = absurd (omega arith)
bit_same true false e = absurd (omega arith)
bit_same true true e = refl

bit_below : (f e : Bool) → (T f → T e) → bit f ≤ bit e
unfolding bit
bit_below false e h = omega arith
bit_below true true h = omega arith
bit_below true false h = absurd (h tt)

-- a count that never falls
rises : (size : ℕ) (place : ℕ → ℕ) → ((x : ℕ) → x < size → place x ≤ place (suc x)) → (more x : ℕ) → x + more ≤ size → place x ≤ place (x + more)
rises size place s zero x h =
    let e : x ≡ x + zero = omega arith in
    let q = ap place e in
    omega arith
rises size place s (suc more) x h =
    let e : suc x + more ≡ x + suc more = omega arith in
    let q = ap place e in
    let r = rises size place s more (suc x) (omega arith) in
    let t = s x (omega arith) in
    omega arith

pub steps_rise : (size : ℕ) (place : ℕ → ℕ) → ((x : ℕ) → x < size → place x ≤ place (suc x)) → (x y : ℕ) → x ≤ y → y ≤ size → place x ≤ place y
steps_rise size place s x y l h =
    let e : x + (y - x) ≡ y = omega arith in
    let q = ap place e in
    let r = rises size place s (y - x) x (omega arith) in
    omega arith

-- Where the nodes stand before they are doubled: "Each element is followed at once by a filler attribute"
pub record Placing (κ : ℕ → Class) (p : Table) (u : ℕ) (place : ℕ → ℕ) (cut gap : ℕ) : Type 0 where
  pub start : place 0 ≡ 0
  pub steps : (x : ℕ) → x < p.size → place (suc x) ≡ suc (place x + bit (is_element (κ (p.label x))))
  pub trunk : u < p.size
  pub cut_at : cut ≡ place (suc u)
  pub all : place p.size ≡ cut + gap

module _ {κ : ℕ → Class} {p : Table} {u : ℕ} {place : ℕ → ℕ} {cut gap : ℕ} (P : Placing κ p u place cut gap) where
  pub place_next : {x : ℕ} {f : Bool} → Stands κ p x f → place x + bit f < place (suc x)
  place_next {x} {f} st =
      let e = P.steps x st.inside in
      let b = bit_below f (is_element (κ (p.label x))) st.owner in
      omega arith

  pub place_rises : (x y : ℕ) → x ≤ y → y ≤ p.size → place x ≤ place y
  place_rises x y l h = steps_rise p.size place (λ (k : ℕ) (i : k < p.size). let e = P.steps k i in omega arith) x y l h

  pub place_above : {x y : ℕ} {f g : Bool} → x < y → Stands κ p x f → Stands κ p y g → place x + bit f < place y
  place_above {x} {y} l a b =
      let n = place_next a in
      let i = b.inside in
      let r = place_rises (suc x) y l (omega arith) in
      omega arith

  pub place_apart : {x y : ℕ} {f g : Bool} → Stands κ p x f → Stands κ p y g → place x + bit f ≡ place y + bit g → (x ≡ y) × (f ≡ g)
  place_apart {x} {y} {f} {g} a b e = go (dec_lt x y) (dec_lt y x)
    where
      go : Dec (x < y) → Dec (y < x) → (x ≡ y) × (f ≡ g)
      go (yes h) d = absurd (let r = place_above h a b in omega arith)
      go (no h) (yes k) = absurd (let r = place_above k b a in omega arith)
      go (no h) (no k) =
          let q : x ≡ y = omega arith in
          let r = ap place q in
          (q, bit_same f g (omega arith))

  -- which side of the cut
  pub place_trunk : {x : ℕ} {f : Bool} → Stands κ p x f → x ≤ u → place x + bit f < cut
  place_trunk {x} st h =
      let n = place_next st in
      let t = P.trunk in
      let r = place_rises (suc x) (suc u) (omega arith) (omega arith) in
      let c = P.cut_at in
      omega arith

  pub place_below : (x : ℕ) → u < x → x < p.size → cut ≤ place x
  place_below x h i =
      let r = place_rises (suc u) x h (omega arith) in
      let c = P.cut_at in
      omega arith

  pub place_within : {x : ℕ} {f : Bool} → Stands κ p x f → place x + bit f < cut + gap
  place_within {x} st =
      let n = place_next st in
      let i = st.inside in
      let r = place_rises (suc x) p.size i (omega arith) in
      let a = P.all in
      omega arith
