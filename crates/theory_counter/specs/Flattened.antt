-- Lists made of a short list for each number: which number an index belongs to.
use Prim.Native.Nat.{ℕ, zero, suc, ◌+◌, ◌-◌, ◌≤◌, ◌<◌}
use Rattle.std.specs.Prelude.{◌≡◌, refl, get_or}
use Rattle.std.proofs.Math.Path.{ap}
use Rattle.std.proofs.Common.{◌∙◌, get_or-append-add}
use mathlib.Core.List.{List, ◌++◌, map, flatten}
use native.Mathlib.Omega.{arith}
use Rattle.std.proofs.Math.Decide.{dec_lt, ℕ_discrete}
use Rattle.std.proofs.Math.ListN.{length, length-append, get_or-append}
use Rattle.meaning.specs.Lists.{numbers}

pub map_numbers_at : {A : Type 0} (f : ℕ → A) (count start i n : ℕ) (d : A) → i < count → n ≡ start + i → get_or (map f (numbers count start)) i d ≡ f n
unfolding numbers
map_numbers_at f zero start i n d h e = absurd (omega arith)
map_numbers_at f (suc count) start zero n d h e = let q : start ≡ n = omega arith in ap f q
map_numbers_at f (suc count) start (suc i) n d h e = map_numbers_at f count (suc start) i n d (omega arith) (omega arith)

module _ {A : Type 0} (g : ℕ → List A) (place : ℕ → ℕ) where
  -- `place` counts what stands before
  unfoldable pub Counts : ℕ → ℕ → Type 0
  Counts count start = (x : ℕ) → start ≤ x → x < start + count → place (suc x) ≡ place x + length (g x)

  fewer : (count start : ℕ) → Counts (suc count) start → Counts count (suc start)
  unfolding Counts
  fewer count start c = λ x l h. c x (omega arith) (omega arith)

  pub flat_length : (count start : ℕ) → Counts count start → place start + length (flatten (map g (numbers count start))) ≡ place (start + count)
  unfolding numbers flatten Counts
  flat_length zero start c = let e : start ≡ start + zero = omega arith in let q = ap place e in omega arith
  flat_length (suc count) start c =
      let e : suc start + count ≡ start + suc count = omega arith in
      let q = ap place e in
      let r = flat_length count (suc start) (fewer count start c) in
      let s = c start (omega arith) (omega arith) in
      let l = length-append (g start) (flatten (map g (numbers count (suc start)))) in
      omega arith

  rises : (count start x : ℕ) → Counts count start → start ≤ x → x ≤ start + count → place start ≤ place x
  unfolding Counts
  rises zero start x c l h = let e : start ≡ x = omega arith in let q = ap place e in omega arith
  rises (suc count) start x c l h = go (ℕ_discrete start x) (λ k. rises count (suc start) x (fewer count start c) k (omega arith))
    where
      go : Dec (start ≡ x) → (suc start ≤ x → place (suc start) ≤ place x) → place start ≤ place x
      go (yes e) ih = let q = ap place e in omega arith
      go (no e) ih = let r = ih (omega arith) in let s = c start (omega arith) (omega arith) in omega arith

  pub flat_at : (count start x j m : ℕ) (d : A) → Counts count start → start ≤ x → x < start + count → j < length (g x)
      → place start + m ≡ place x + j → get_or (flatten (map g (numbers count start))) m d ≡ get_or (g x) j d
  unfolding numbers flatten Counts
  flat_at zero start x j m d c l h k e = absurd (omega arith)
  flat_at (suc count) start x j m d c l h k e =
      go (ℕ_discrete start x) (λ q r. flat_at count (suc start) x j (m - length (g start)) d (fewer count start c) q (omega arith) k r)
    where
      rest : List A
      rest = flatten (map g (numbers count (suc start)))

      go : Dec (start ≡ x)
          → (suc start ≤ x → place (suc start) + (m - length (g start)) ≡ place x + j → get_or rest (m - length (g start)) d ≡ get_or (g x) j d)
          → get_or (g start ++ rest) m d ≡ get_or (g x) j d
      go (yes q) ih =
          let p = ap place q in
          let i : m ≡ j = omega arith in
          let same : length (g start) ≡ length (g x) = ap (λ (y : ℕ). length (g y)) q in
          get_or-append (g start) rest d m (omega arith) ∙ ap (λ (y : ℕ). get_or (g y) m d) q ∙ ap (λ (y : ℕ). get_or (g x) y d) i
      go (no q) ih =
          let s = c start (omega arith) (omega arith) in
          let r = rises count (suc start) x (fewer count start c) (omega arith) (omega arith) in
          let i : m ≡ length (g start) + (m - length (g start)) = omega arith in
          ap (λ (y : ℕ). get_or (g start ++ rest) y d) i ∙ get_or-append-add (g start) rest (m - length (g start)) d ∙ ih (omega arith) (omega arith)

  pub record FlatPlace (count start m : ℕ) : Type 0 where
    pub node : ℕ
    pub index : ℕ
    pub not_before : start ≤ node
    pub not_behind : node < start + count
    pub inside : index < length (g node)
    pub here : place start + m ≡ place node + index

  pub flat_find : (count start m : ℕ) → Counts count start → m < length (flatten (map g (numbers count start))) → FlatPlace count start m
  unfolding numbers flatten Counts
  flat_find zero start m c h = absurd (omega arith)
  flat_find (suc count) start m c h =
      go (dec_lt m (length (g start))) (λ k. flat_find count (suc start) (m - length (g start)) (fewer count start c) k)
    where
      rest : List A
      rest = flatten (map g (numbers count (suc start)))

      go : Dec (m < length (g start)) → (m - length (g start) < length rest → FlatPlace count (suc start) (m - length (g start))) → FlatPlace (suc count) start m
      go (yes q) ih = record { node = start; index = m; not_before = omega arith; not_behind = omega arith; inside = q; here = refl }
      go (no q) ih =
          let l = length-append (g start) rest in
          let f = ih (omega arith) in
          let s = c start (omega arith) (omega arith) in
          let b = f.not_before in
          let k = f.not_behind in
          let e = f.here in
          record { node = f.node; index = f.index; not_before = omega arith; not_behind = omega arith; inside = f.inside; here = omega arith }
