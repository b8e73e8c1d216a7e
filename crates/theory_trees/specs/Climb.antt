-- Reach as a computation: climb from the lower node, gathering the labels passed, until the upper node is met.
use Prim.Native.Nat.{ℕ, zero, suc, ◌<◌, ◌≤◌}
use Rattle.std.specs.Prelude.{◌≡◌, Bool, ◌&&◌, length}
use Rattle.std.proofs.Math.Path.{refl, subst}
use Rattle.std.proofs.Common.{sym, ◌∙◌, ap, true≢false, arith, eqb→eq}
use Rattle.std.proofs.Math.Bool.{true, false}
use Rattle.std.proofs.lemmas.Bool.{false≢true}
use mathlib.Core.List.{List, [], ◌∷◌, ◌++◌, append_assoc, append-nil}
use Rattle.std.proofs.Math.Decide.{map_dec}
use Rattle.std.proofs.Math.Dec.{T, eqb, ltb, ltb→lt}
use borrow.Author.Tests.{eqb-true, eq-eqb, ne_eqb, lt-ltb}
use Rattle.meaning.specs.Paths.{member}
use Rattle.meaning.specs.Trees.{Table, Child, Down, here, step, Reached}
use Rattle.theory_lists.specs.Bools.{and_left, and_right}
use Rattle.theory_trees.specs.Below.{ParentsSmaller, down_greater, down_from}

-- The last label of a run, and the run before it
pub record Last (t : Table) (v : ℕ) (run : List ℕ) (w : ℕ) : Type 0 where
  pub front : List ℕ
  pub not_root : 0 < w
  pub inside : w < t.size
  pub down : Down t v front (t.parent w)
  pub whole : run ≡ front ++ (t.label w ∷ [])
  pub shorter : length run ≡ suc (length front)

pub last_step : {t : Table} {v l w : ℕ} {ls : List ℕ} (x : ℕ) → Child t v x → t.label x ≡ l → Down t x ls w → Last t v (l ∷ ls) w
last_step {t} {v} {l} x c e (here {w = w} p) =
    let n = c.not_root in
    let i = c.inside in
    record {
      front = [];
      not_root = omega arith;
      inside = omega arith;
      down = here (sym c.below ∙ ap (λ (k : ℕ). t.parent k) p);
      whole = ap (λ (k : ℕ). k ∷ []) (sym e ∙ ap (λ (k : ℕ). t.label k) p);
      shorter = refl;
    }
last_step {l} x c e (step y k f d) =
    let r = last_step y k f d in
    record {
      front = l ∷ r.front;
      not_root = r.not_root;
      inside = r.inside;
      down = step x c e r.down;
      whole = ap (λ (s : List ℕ). l ∷ s) r.whole;
      shorter = ap suc r.shorter;
    }

unfoldable pub reaches_from : Table → ℕ → List ℕ → ℕ → List ℕ → ℕ → Bool
reaches_from t v path zero run w = eqb w v && member path run
reaches_from t v path (suc left) run w =
    elim (eqb w v) [
      | true ↦ member path run
      | false ↦ elim (ltb 0 w && ltb w t.size) [ true ↦ reaches_from t v path left (t.label w ∷ run) (t.parent w) | false ↦ false ]
    ]

-- Node w is reached from v by the path: at most w levels lie above w
unfoldable pub reaches : Table → ℕ → List ℕ → ℕ → Bool
reaches t v path w = reaches_from t v path w [] w

-- the two ways on
ends_here : (b : Bool) → b ≡ true → (m r : Bool) → T m → T (elim b [ true ↦ m | false ↦ r ])
ends_here true e m r h = h
ends_here false e m r h = absurd (false≢true e)

goes_on : (b : Bool) → b ≡ false → (c : Bool) → c ≡ true → (m r : Bool) → T r
    → T (elim b [ true ↦ m | false ↦ elim c [ true ↦ r | false ↦ false ] ])
goes_on true e c f m r h = absurd (true≢false e)
goes_on false e true f m r h = h
goes_on false e false f m r h = absurd (false≢true f)

module _ (t : Table) (v : ℕ) (path : List ℕ) where
  met : {w x : ℕ} {run : List ℕ} → w ≡ v → Down t w run x → T (member path run) → Reached t v path x
  met {run = run} e d m = record { run = run; down = down_from (sym e) d; word = m }

  reaches_from_sound : (left : ℕ) (run : List ℕ) (w x : ℕ) → T (reaches_from t v path left run w) → Down t w run x → Reached t v path x
  unfolding reaches_from
  reaches_from_sound zero run w x h d =
      met (eqb→eq w v (and_left (eqb w v) (member path run) h)) d (and_right (eqb w v) (member path run) h)
  reaches_from_sound (suc left) run w x h d =
      go (eqb w v) refl (ltb 0 w && ltb w t.size) refl (λ a b. reaches_from_sound left (t.label w ∷ run) (t.parent w) x a b) h
    where
      go : (b : Bool) → eqb w v ≡ b → (c : Bool) → (ltb 0 w && ltb w t.size) ≡ c
          → (T (reaches_from t v path left (t.label w ∷ run) (t.parent w)) → Down t (t.parent w) (t.label w ∷ run) x → Reached t v path x)
          → T (elim b [ true ↦ member path run | false ↦ elim c [ true ↦ reaches_from t v path left (t.label w ∷ run) (t.parent w) | false ↦ false ] ])
          → Reached t v path x
      go true e c f ih h = met (eqb-true w v e) d h
      go false e true f ih h =
          let k : T (ltb 0 w && ltb w t.size) = subst T (sym f) tt in
          ih h
          (step w
          (record {
            not_root = ltb→lt 0 w (and_left (ltb 0 w) (ltb w t.size) k);
            inside = ltb→lt w t.size (and_right (ltb 0 w) (ltb w t.size) k);
            below = refl;
          })
          refl
          d)
      go false e false f ih h = absurd h

  reaches_from_complete : ParentsSmaller t → (left : ℕ) (ws run : List ℕ) (w : ℕ) → Down t v ws w → length ws ≤ left
      → T (member path (ws ++ run)) → T (reaches_from t v path left run w)
  unfolding reaches_from
  reaches_from_complete small zero [] run w (here p) h m = rw (eq-eqb w v (sym p)) m
  reaches_from_complete small zero (l ∷ ls) run w d h m = absurd (omega arith)
  reaches_from_complete small (suc left) [] run w (here p) h m = ends_here (eqb w v) (eq-eqb w v (sym p)) (member path run) _ m
  reaches_from_complete small (suc left) (l ∷ ls) run w (step x c e d) h m =
      let g = down_greater small (step x c e d) in
      let k = last_step x c e d in
      let r = reaches_from_complete small left k.front (t.label w ∷ run) (t.parent w) k.down (let s = k.shorter in omega arith)
      (subst (λ (s : List ℕ). T (member path s)) (ap (λ (s : List ℕ). s ++ run) k.whole ∙ append_assoc k.front (t.label w ∷ []) run) m)
      in
      goes_on (eqb w v) (ne_eqb w v (λ q. omega arith)) (ltb 0 w && ltb w t.size)
      (rw (lt-ltb 0 w k.not_root, lt-ltb w t.size k.inside) refl) (member path run)
      (reaches_from t v path left (t.label w ∷ run) (t.parent w)) r

pub reaches_sound : (t : Table) (v : ℕ) (path : List ℕ) (w : ℕ) → T (reaches t v path w) → Reached t v path w
unfolding reaches
reaches_sound t v path w h = reaches_from_sound t v path w [] w w h (here refl)

pub reaches_complete : (t : Table) → ParentsSmaller t → (v : ℕ) (path : List ℕ) (w : ℕ) → Reached t v path w → T (reaches t v path w)
unfolding reaches
reaches_complete t small v path w r =
    reaches_from_complete t v path small w r.run [] w r.down (let g = down_greater small r.down in omega arith)
    (subst (λ (s : List ℕ). T (member path s)) (sym (append-nil r.run)) r.word)

pub T-dec : (b : Bool) → Dec (T b)
T-dec true = yes tt
T-dec false = no (λ h. h)

pub reached? : (t : Table) → ParentsSmaller t → (v : ℕ) (path : List ℕ) (w : ℕ) → Dec (Reached t v path w)
reached? t small v path w = map_dec (reaches_sound t v path w) (reaches_complete t small v path w) (T-dec (reaches t v path w))
