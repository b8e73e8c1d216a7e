-- The lines that stay: each is wanted, or is a premise of a later one that stays, and with a line its premises stay.
use Rattle.std.specs.Prelude.{ℕ, zero, suc, ◌≤◌, ◌<◌, ◌≡◌, refl, ◌⊎◌, Bool, true, false, cond, eqb, length}
use Rattle.std.proofs.Common.{sym, subst, inl, inr, arith, eqb→eq, length-append}
use mathlib.Core.List.Memᴰ
use mathlib.Core.List.{List, [], ◌∷◌, ◌++◌, map, append-nil, Memᴰ}
use Rattle.std.proofs.Math.Decide.{dec_lt}
use Rattle.meaning.specs.Lists.{any}
use Rattle.meaning.specs.Rules.{Line}
use Rattle.meaning.specs.Trimming.{pointed, premises, line_at, needed_below}
use Rattle.theory_lists.specs.Bools.{of_true, of_false, any_some, some_any, eqb_of}
use Rattle.theory_trim.specs.Numbered.{Rising, risen, rising_more}

-- the lines that a line points to
unfoldable pub wants : List Line → ℕ → List ℕ
wants lines n = map (pointed lines) (premises (line_at lines n))

-- from line n - 1 down: what is wanted, and what stays
pub data Needs (lines : List Line) : ℕ → List ℕ → List ℕ → Type 0 where
  no_line : {wanted : List ℕ} → Needs lines 0 wanted []
  stays : {n : ℕ} {wanted kept : List ℕ} → Memᴰ n wanted → Needs lines n (wants lines n ++ wanted) kept
      → Needs lines (suc n) wanted (kept ++ (n ∷ []))
  goes : {n : ℕ} {wanted kept : List ℕ} → (Memᴰ n wanted → ⊥) → Needs lines n wanted kept → Needs lines (suc n) wanted kept

any_mem : (n : ℕ) (wanted : List ℕ) → any (eqb n) wanted ≡ true → Memᴰ n wanted
any_mem n wanted e =
    let s = any_some (eqb n) wanted (of_true _ e) in
    subst (λ (m : ℕ). Memᴰ m wanted) (sym (eqb→eq n s.0 s.2)) s.1

mem_any : (n : ℕ) (wanted : List ℕ) → any (eqb n) wanted ≡ false → Memᴰ n wanted → ⊥
mem_any n wanted e m = of_false _ e (some_any (eqb n) n m (eqb_of n n refl))

pub needs : (lines : List Line) (n : ℕ) (wanted : List ℕ) → Needs lines n wanted (needed_below lines n wanted)
unfolding needed_below wants
needs lines zero wanted = no_line
needs lines (suc n) wanted = go (any (eqb n) wanted) refl (λ w. needs lines n w)
  where
    go : (b : Bool) → any (eqb n) wanted ≡ b → ((w : List ℕ) → Needs lines n w (needed_below lines n w))
        → Needs lines (suc n) wanted (needed_below lines n (cond b (map (pointed lines) (premises (line_at lines n))) [] ++ wanted) ++ cond b (n ∷ []) [])
    go true e more = stays (any_mem n wanted e) (more (wants lines n ++ wanted))
    go false e more =
        goes (mem_any n wanted e) (subst (λ (l : List ℕ). Needs lines n wanted l) (sym (append-nil (needed_below lines n wanted))) (more wanted))

-- a line that is wanted by one that stays
pub record WantedBy (lines : List Line) (kept : List ℕ) (x : ℕ) : Type 0 where
  pub by : ℕ
  pub stays : Memᴰ by kept
  pub later : x < by
  pub among : Memᴰ x (wants lines by)

-- where line n is wanted, it is the last that stays
pub record LastStays (kept : List ℕ) (n : ℕ) : Type 0 where
  pub before : List ℕ
  pub are : kept ≡ before ++ (n ∷ [])

module _ {lines : List Line} where
  pub needs_below : {n : ℕ} {wanted kept : List ℕ} → Needs lines n wanted kept → (x : ℕ) → Memᴰ x kept → x < n
  needs_below no_line x m = absurd (Memᴰ.not-nil m)
  needs_below (stays {n = n} {kept = kept} w r) x m = go (λ k. needs_below r x k) (Memᴰ.append_cases kept m)
    where
      go : (Memᴰ x kept → x < n) → Memᴰ x kept ⊎ Memᴰ x (n ∷ []) → x < suc n
      go more (inl k) = let h = more k in omega arith
      go more (inr k) = let e = Memᴰ.eq_of_singleton k in omega arith
  needs_below (goes w r) x m = let h = needs_below r x m in omega arith

  pub needs_rising : {n : ℕ} {wanted kept : List ℕ} → Needs lines n wanted kept → Rising 0 kept
  needs_rising no_line = risen
  needs_rising (stays {n = n} w r) = rising_more (needs_rising r) n (omega arith) (λ x m. needs_below r x m)
  needs_rising (goes w r) = needs_rising r

  pub needs_few : {n : ℕ} {wanted kept : List ℕ} → Needs lines n wanted kept → length kept ≤ n
  needs_few no_line = omega arith
  needs_few (stays {n = n} {kept = kept} w r) = let h = needs_few r in omega (arith, length-append kept (n ∷ []))
  needs_few (goes w r) = let h = needs_few r in omega arith

  -- what is wanted stays
  pub needs_wanted : {n : ℕ} {wanted kept : List ℕ} → Needs lines n wanted kept → (x : ℕ) → Memᴰ x wanted → x < n → Memᴰ x kept
  needs_wanted no_line x m h = absurd (omega arith)
  needs_wanted (stays {n = n} {kept = kept} w r) x m h =
      go (λ k. needs_wanted r x (Memᴰ.append_right (wants lines n) m) k) (dec_lt x n)
    where
      go : (x < n → Memᴰ x kept) → Dec (x < n) → Memᴰ x (kept ++ (n ∷ []))
      go more (yes k) = Memᴰ.append_left (n ∷ []) (more k)
      go more (no k) = Memᴰ.append_right kept (Memᴰ.head (omega arith))
  needs_wanted (goes {n = n} {wanted = wanted} {kept = kept} w r) x m h = go (λ k. needs_wanted r x m k) (dec_lt x n)
    where
      go : (x < n → Memᴰ x kept) → Dec (x < n) → Memᴰ x kept
      go more (yes k) = more k
      go more (no k) = let e : x ≡ n = omega arith in absurd (w (subst (λ (y : ℕ). Memᴰ y wanted) e m))

  -- with a line the lines that it points to stay
  pub needs_closed : {n : ℕ} {wanted kept : List ℕ} → Needs lines n wanted kept → (m x : ℕ) → Memᴰ m kept → Memᴰ x (wants lines m)
      → x < m → Memᴰ x kept
  needs_closed no_line m x k p h = absurd (Memᴰ.not-nil k)
  needs_closed (stays {n = n} {wanted = wanted} {kept = kept} w r) m x k p h =
      Memᴰ.append_left (n ∷ []) (go (λ j. needs_closed r m x j p h) (Memᴰ.append_cases kept k))
    where
      go : (Memᴰ m kept → Memᴰ x kept) → Memᴰ m kept ⊎ Memᴰ m (n ∷ []) → Memᴰ x kept
      go more (inl j) = more j
      go more (inr j) =
          let e = Memᴰ.eq_of_singleton j in
          needs_wanted r x (Memᴰ.append_left wanted (subst (λ (y : ℕ). Memᴰ x (wants lines y)) e p)) (omega arith)
  needs_closed (goes w r) m x k p h = needs_closed r m x k p h

  -- a line that stays is wanted, or a later one that stays points to it
  pub needs_why : {n : ℕ} {wanted kept : List ℕ} → Needs lines n wanted kept → (x : ℕ) → Memᴰ x kept
      → Memᴰ x wanted ⊎ WantedBy lines kept x
  needs_why no_line x m = absurd (Memᴰ.not-nil m)
  needs_why (stays {n = n} {wanted = wanted} {kept = kept} w r) x m = go (λ k. needs_why r x k) (Memᴰ.append_cases kept m)
    where
      wide : WantedBy lines kept x → WantedBy lines (kept ++ (n ∷ [])) x
      wide b = record { by = b.by; stays = Memᴰ.append_left (n ∷ []) b.stays; later = b.later; among = b.among }

      here : Memᴰ x (wants lines n) → Memᴰ x kept → WantedBy lines (kept ++ (n ∷ [])) x
      here p k = record { by = n; stays = Memᴰ.append_right kept (Memᴰ.head refl); later = needs_below r x k; among = p }

      first : Memᴰ x kept → Memᴰ x (wants lines n) ⊎ Memᴰ x wanted → Memᴰ x wanted ⊎ WantedBy lines (kept ++ (n ∷ [])) x
      first k (inl p) = inr (here p k)
      first k (inr p) = inl p

      split : Memᴰ x kept → Memᴰ x (wants lines n ++ wanted) ⊎ WantedBy lines kept x
          → Memᴰ x wanted ⊎ WantedBy lines (kept ++ (n ∷ [])) x
      split k (inl p) = first k (Memᴰ.append_cases (wants lines n) p)
      split k (inr b) = inr (wide b)

      go : (Memᴰ x kept → Memᴰ x (wants lines n ++ wanted) ⊎ WantedBy lines kept x) → Memᴰ x kept ⊎ Memᴰ x (n ∷ [])
          → Memᴰ x wanted ⊎ WantedBy lines (kept ++ (n ∷ [])) x
      go more (inl k) = split k (more k)
      go more (inr k) = inl (subst (λ (y : ℕ). Memᴰ y wanted) (sym (Memᴰ.eq_of_singleton k)) w)
  needs_why (goes w r) x m = needs_why r x m

  pub needs_last : {n : ℕ} {wanted kept : List ℕ} → Needs lines (suc n) wanted kept → Memᴰ n wanted → LastStays kept n
  needs_last (stays {kept = kept} w r) m = record { before = kept; are = refl }
  needs_last (goes w r) m = absurd (w m)
