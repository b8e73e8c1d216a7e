-- Members of a list by their numbers, ascending lists of numbers, and the place of a number in such a list.
use Rattle.std.specs.Prelude.{ℕ, zero, suc, ◌+◌, ◌≤◌, ◌<◌, ◌≡◌, refl, ◌⊎◌, Bool, true, false, cond, eqb}
use Rattle.std.proofs.Common.{sym, ap, subst, ◌∙◌, inl, inr, arith, eqb-true}
use mathlib.Core.List.Memᴰ
use mathlib.Core.List.{List, [], ◌∷◌, ◌++◌, map, Memᴰ}
use Rattle.std.proofs.Math.Option.{some, none-ne-some, some-injective}
use Rattle.std.proofs.lemmas.Bool.{eqb-false}
use lib.ListN.{length, get_or, take, get_elem?}
use Rattle.meaning.specs.Lists.{numbers}
use Rattle.meaning.specs.Trimming.{place_in}
use Rattle.theory_lists.specs.Logic.{found_mem}

module _ {A : Type 0} where
  pub get_or_is : (xs : List A) (n : ℕ) (d : A) {x : A} → get_elem? xs n ≡ some x → get_or xs n d ≡ x
  get_or_is [] n d e = absurd (none-ne-some _ e)
  get_or_is (y ∷ xs) zero d e = some-injective _ _ e
  get_or_is (y ∷ xs) (suc n) d e = get_or_is xs n d e

  -- of a beginning, and the other way
  pub at_take : (m : ℕ) (xs : List A) (n : ℕ) → n < m → get_elem? (take m xs) n ≡ get_elem? xs n
  at_take zero xs n h = absurd (omega arith)
  at_take (suc m) [] n h = refl
  at_take (suc m) (x ∷ xs) zero h = refl
  at_take (suc m) (x ∷ xs) (suc n) h = at_take m xs n (omega arith)

  pub take_below : (m : ℕ) (xs : List A) (n : ℕ) {x : A} → get_elem? (take m xs) n ≡ some x → n < m
  take_below zero xs n e = absurd (none-ne-some _ e)
  take_below (suc m) [] n e = absurd (none-ne-some _ e)
  take_below (suc m) (x ∷ xs) zero e = omega arith
  take_below (suc m) (x ∷ xs) (suc n) e = let h = take_below m xs n e in omega arith

  pub same_at : (xs : List A) (n : ℕ) {x y : A} → get_elem? xs n ≡ some x → get_elem? xs n ≡ some y → x ≡ y
  same_at xs n e f = some-injective _ _ (sym e ∙ f)

module _ {A B : Type 0} (f : A → B) where
  pub at_map : (xs : List A) (n : ℕ) {x : A} → get_elem? xs n ≡ some x → get_elem? (map f xs) n ≡ some (f x)
  at_map [] n e = absurd (none-ne-some _ e)
  at_map (y ∷ xs) zero e = ap (λ (a : A). some (f a)) (some-injective _ _ e)
  at_map (y ∷ xs) (suc n) e = at_map xs n e

  -- what stands at a number of the image
  pub record Source (xs : List A) (n : ℕ) (y : B) : Type 0 where
    pub member : A
    pub stands : get_elem? xs n ≡ some member
    pub is : f member ≡ y

  pub map_at : (xs : List A) (n : ℕ) {y : B} → get_elem? (map f xs) n ≡ some y → Source xs n y
  map_at [] n e = absurd (none-ne-some _ e)
  map_at (x ∷ xs) zero e = record { member = x; stands = refl; is = some-injective _ _ e }
  map_at (x ∷ xs) (suc n) e = let s = map_at xs n e in record { member = s.member; stands = s.stands; is = s.is }

  pub mem_map : {x : A} {xs : List A} → Memᴰ x xs → Memᴰ (f x) (map f xs)
  mem_map (Memᴰ.head e) = Memᴰ.head (ap f e)
  mem_map (Memᴰ.tail m) = Memᴰ.tail (mem_map m)

  pub record Image (xs : List A) (y : B) : Type 0 where
    pub member : A
    pub among : Memᴰ member xs
    pub is : y ≡ f member

  pub map_mem : (xs : List A) {y : B} → Memᴰ y (map f xs) → Image xs y
  map_mem [] m = absurd (Memᴰ.not-nil m)
  map_mem (x ∷ xs) (Memᴰ.head e) = record { member = x; among = Memᴰ.head refl; is = e }
  map_mem (x ∷ xs) (Memᴰ.tail m) = let i = map_mem xs m in record { member = i.member; among = Memᴰ.tail i.among; is = i.is }

-- an ascending list of numbers from lo on, none twice
pub data Rising : ℕ → List ℕ → Type 0 where
  risen : {lo : ℕ} → Rising lo []
  rises : {lo x : ℕ} {xs : List ℕ} → lo ≤ x → Rising (suc x) xs → Rising lo (x ∷ xs)

pub rising_least : {lo : ℕ} {xs : List ℕ} → Rising lo xs → (x : ℕ) → Memᴰ x xs → lo ≤ x
rising_least (rises h r) x (Memᴰ.head e) = omega arith
rising_least (rises h r) x (Memᴰ.tail m) = let k = rising_least r x m in omega arith
rising_least (risen {lo = lo}) x x8 = elim x8 [ ]

-- a greater one at the end
pub rising_more : {lo : ℕ} {xs : List ℕ} → Rising lo xs → (n : ℕ) → lo ≤ n → ((x : ℕ) → Memᴰ x xs → x < n) → Rising lo (xs ++ (n ∷ []))
rising_more risen n low h = rises low risen
rising_more (rises {x = x} {xs = xs} k r) n low h =
    rises k (rising_more r n (h x (Memᴰ.head refl)) (λ y m. h y (Memᴰ.tail m)))

-- a greater number stands further on
pub rising_order : {lo : ℕ} {xs : List ℕ} → Rising lo xs → (i j : ℕ) {x y : ℕ} → get_elem? xs i ≡ some x → get_elem? xs j ≡ some y → x < y → i < j
rising_order risen i j e f h = absurd (none-ne-some _ e)
rising_order (rises {x = z} {xs = xs} k r) zero zero {x} {y} e f h =
    let s : x ≡ z = sym (some-injective _ _ e) in
    let t : y ≡ z = sym (some-injective _ _ f) in
    absurd (omega arith)
rising_order (rises k r) zero (suc j) e f h = omega arith
rising_order (rises {x = z} {xs = xs} k r) (suc i) zero {x} {y} e f h =
    let s : suc z ≤ x = rising_least r x (found_mem xs i e) in
    let t : y ≡ z = sym (some-injective _ _ f) in
    absurd (omega arith)
rising_order (rises k r) (suc i) (suc j) e f h = let m = rising_order r i j e f h in omega arith

-- a number stands once
pub rising_once : {lo : ℕ} {xs : List ℕ} → Rising lo xs → (i j : ℕ) {x : ℕ} → get_elem? xs i ≡ some x → get_elem? xs j ≡ some x → i ≡ j
rising_once risen i j e f = absurd (none-ne-some _ e)
rising_once (rises k r) zero zero e f = refl
rising_once (rises {x = z} {xs = xs} k r) zero (suc j) {x} e f =
    let s : suc z ≤ x = rising_least r x (found_mem xs j f) in
    let t : x ≡ z = sym (some-injective _ _ e) in
    absurd (omega arith)
rising_once (rises {x = z} {xs = xs} k r) (suc i) zero {x} e f =
    let s : suc z ≤ x = rising_least r x (found_mem xs i e) in
    let t : x ≡ z = sym (some-injective _ _ f) in
    absurd (omega arith)
rising_once (rises k r) (suc i) (suc j) e f = ap suc (rising_once r i j e f)

-- the place of a member is where it stands
pub place_stands : (xs : List ℕ) (n : ℕ) → Memᴰ n xs → get_elem? xs (place_in xs n) ≡ some n
unfolding place_in
place_stands [] n m = absurd (Memᴰ.not-nil m)
place_stands (x ∷ xs) n m = go (eqb x n) refl (λ k. place_stands xs n k)
  where
    go : (b : Bool) → eqb x n ≡ b → (Memᴰ n xs → get_elem? xs (place_in xs n) ≡ some n)
        → get_elem? (x ∷ xs) (cond b 0 (suc (place_in xs n))) ≡ some n
    go true e more = ap some (eqb-true x n e)
    go false e more = later (Memᴰ.cases_cons m)
      where
        later : (n ≡ x) ⊎ Memᴰ n xs → get_elem? xs (place_in xs n) ≡ some n
        later (inl q) = absurd (eqb-false x n e (sym q))
        later (inr k) = more k

pub place_is : {lo : ℕ} {xs : List ℕ} → Rising lo xs → (i : ℕ) {n : ℕ} → get_elem? xs i ≡ some n → place_in xs n ≡ i
place_is {xs = xs} r i {n} e = rising_once r (place_in xs n) i (place_stands xs n (found_mem xs i e)) e

-- an ascending list that holds all numbers of a range, and no other
pub rising_all : (count lo : ℕ) {xs : List ℕ} → Rising lo xs → ((x : ℕ) → Memᴰ x xs → x < lo + count)
    → ((x : ℕ) → lo ≤ x → x < lo + count → Memᴰ x xs) → xs ≡ numbers count lo
unfolding numbers
rising_all zero lo risen h all = refl
rising_all zero lo (rises {x = x} k r) h all = absurd (let z = h x (Memᴰ.head refl) in omega arith)
rising_all (suc count) lo risen h all = absurd (Memᴰ.not-nil (all lo (omega arith) (omega arith)))
rising_all (suc count) lo (rises {x = x} {xs = xs} k r) h all =
    let same : x ≡ lo = first (Memᴰ.cases_cons (all lo (omega arith) (omega arith))) in
    ap (λ (n : ℕ). n ∷ xs) same
    ∙ ap (λ (l : List ℕ). lo ∷ l)
    (rising_all count (suc lo) (subst (λ (n : ℕ). Rising (suc n) xs) same r)
    (λ y m. let z = h y (Memᴰ.tail m) in omega arith)
    (λ y low high. rest y (omega arith) (Memᴰ.cases_cons (all y (omega arith) (omega arith)))))
  where
    first : (lo ≡ x) ⊎ Memᴰ lo xs → x ≡ lo
    first (inl e) = sym e
    first (inr m) = absurd (let z = rising_least r lo m in omega arith)

    rest : (y : ℕ) → lo < y → (y ≡ x) ⊎ Memᴰ y xs → Memᴰ y xs
    rest y low (inr m) = m
    rest y low (inl e) = absurd (let same : x ≡ lo = first (Memᴰ.cases_cons (all lo (omega arith) (omega arith))) in omega arith)

pub place_numbers : (count lo n : ℕ) → lo ≤ n → n < lo + count → lo + place_in (numbers count lo) n ≡ n
unfolding place_in numbers
place_numbers zero lo n h k = absurd (omega arith)
place_numbers (suc count) lo n h k = go (eqb lo n) refl (λ g. place_numbers count (suc lo) n g (omega arith))
  where
    go : (b : Bool) → eqb lo n ≡ b → (suc lo ≤ n → suc lo + place_in (numbers count (suc lo)) n ≡ n)
        → lo + cond b 0 (suc (place_in (numbers count (suc lo)) n)) ≡ n
    go true e more = let z = eqb-true lo n e in omega arith
    go false e more = let z = eqb-false lo n e in let y : suc lo ≤ n = omega arith in let m = more y in omega arith

pub at_numbers : {A : Type 0} (xs before : List A) (d : A) → map (λ (n : ℕ). get_or (before ++ xs) n d) (numbers (length xs) (length before)) ≡ xs
unfolding numbers
at_numbers [] before d = refl
at_numbers {A} (x ∷ xs) before d =
    ap (λ (a : A). a ∷ map (λ (n : ℕ). get_or (before ++ x ∷ xs) n d) (numbers (length xs) (suc (length before)))) (lib.Seq.get_or-append_seam before x xs d)
    ∙ ap (λ (l : List A). x ∷ l)
    (subst (λ (l : List A). map (λ (n : ℕ). get_or l n d) (numbers (length xs) (suc (length before))) ≡ xs) (lib.Seq.append_snoc before x xs)
    (subst (λ (m : ℕ). map (λ (n : ℕ). get_or (before ++ (x ∷ []) ++ xs) n d) (numbers (length xs) m) ≡ xs)
    (lib.ListN.length-append before (x ∷ []) ∙ more (length before))
    (at_numbers xs (before ++ (x ∷ [])) d)))
  where
    more : (n : ℕ) → n + 1 ≡ suc n
    more n = omega arith
