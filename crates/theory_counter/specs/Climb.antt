-- Reach in the written tree and in the pattern: every run of labels down to a node of one copy is a run of the pattern, and back.
use Rattle.std.specs.Prelude.{ℕ, zero, suc, ◌<◌, ◌≡◌, refl, ◌⊎◌, Bool, true, false, List, [], ◌∷◌, ◌++◌}
use Rattle.std.proofs.Common.{sym, ap, ◌∙◌, inl, inr, arith}
use Rattle.meaning.specs.Limits.{filler_attribute}
use Rattle.meaning.specs.Paths.{Class}
use Rattle.meaning.specs.Trees.{Table, Child, Down, here, step}
use Rattle.theory_counter.specs.Doubled.{Drawn, Stands, Written}

-- v is the pattern node from which `run` leads down to y, in y's copy
pub record Above (p : Table) (number : Bool → ℕ → Bool → ℕ) (s : Bool) (v : ℕ) (run : List ℕ) (y : ℕ) : Type 0 where
  pub node : ℕ
  pub inside : node < p.size
  pub here : v ≡ number s node false
  pub down : Down p node run y

-- above a filler stands its owner
pub record AboveFiller (p : Table) (number : Bool → ℕ → Bool → ℕ) (s : Bool) (v : ℕ) (run : List ℕ) (y : ℕ) : Type 0 where
  pub front : List ℕ
  pub whole : run ≡ front ++ (filler_attribute ∷ [])
  pub owner : Above p number s v front y

module _ {κ : ℕ → Class} {p : Table} {mark : ℕ → Bool} {u : ℕ} {w : Table} (D : Drawn κ p mark u) (W : Written κ p mark u w) where
  pub own : {x : ℕ} → x < p.size → Stands κ p x false
  own h = record { inside = h; owner = λ t. absurd t }

  pub child_own : (s : Bool) {v n : ℕ} (x : ℕ) → Child w v n → n ≡ W.number s x false → x < p.size
      → (0 < x) × (v ≡ W.number s (p.parent x) false)
  child_own s zero c e h =
      let z = W.zeroth s in
      let r = c.not_root in
      absurd (omega arith)
  child_own s (suc x) c e h =
      (omega arith, sym c.below ∙ ap (λ (n : ℕ). w.parent n) e ∙ W.parent_own s (suc x) (omega arith) h)

  pub child_filler : (s : Bool) {v n : ℕ} (x : ℕ) → Child w v n → n ≡ W.number s x true → Stands κ p x true → v ≡ W.number s x false
  child_filler s x c e h = sym c.below ∙ ap (λ (n : ℕ). w.parent n) e ∙ W.parent_filler s x h

  -- up one level, from a pattern node that is there
  above_step : (s : Bool) {v z l : ℕ} {run : List ℕ} (y : ℕ) → Child w v z → w.label z ≡ l → Above p W.number s z run y
      → Above p W.number s v (l ∷ run) y
  above_step s y c l a =
      let x = a.node in
      let r = child_own s x c a.here a.inside in
      let h = D.above x r.0 a.inside in
      let i = a.inside in
      record {
        node = p.parent x;
        inside = omega arith;
        here = r.1;
        down =
            step x (record { not_root = r.0; inside = a.inside; below = refl })
            (sym (W.labels s (own i)) ∙ ap (λ (n : ℕ). w.label n) (sym a.here) ∙ l) a.down;
      }

  pub above_own : (s : Bool) {v n : ℕ} {run : List ℕ} (y : ℕ) → Down w v run n → n ≡ W.number s y false → y < p.size
      → Above p W.number s v run y
  above_own s y (here q) e h = record { node = y; inside = h; here = q ∙ e; down = here refl }
  above_own s y (step z c l d) e h = above_step s y c l (above_own s y d e h)

  pub above_filler : (s : Bool) {v n : ℕ} {run : List ℕ} (y : ℕ) → Down w v run n → n ≡ W.number s y true → Stands κ p y true
      → ((v ≡ W.number s y true) × (run ≡ [])) ⊎ AboveFiller p W.number s v run y
  above_filler s y (here q) e h = inl (q ∙ e, refl)
  above_filler s {v} y (step {l = l} {ls = ls} z c m d) e h = go (above_filler s y d e h)
    where
      go : ((z ≡ W.number s y true) × (ls ≡ [])) ⊎ AboveFiller p W.number s z ls y
          → ((v ≡ W.number s y true) × (l ∷ ls ≡ [])) ⊎ AboveFiller p W.number s v (l ∷ ls) y
      go (inl r) =
          inr
          (record {
            front = [];
            whole =
                ap (λ (k : ℕ). k ∷ ls) (sym m ∙ ap (λ (n : ℕ). w.label n) r.0 ∙ W.labels s h)
                ∙ ap (λ (k : List ℕ). filler_attribute ∷ k) r.1;
            owner = record { node = y; inside = h.inside; here = child_filler s y c r.0 h; down = here refl };
          })
      go (inr r) =
          inr
          (record {
            front = l ∷ r.front;
            whole = ap (λ (k : List ℕ). l ∷ k) r.whole;
            owner = above_step s y c m r.owner;
          })

  -- and back: a run of the pattern is one of each copy
  pub positive : (s : Bool) (x : ℕ) → 0 < x → x < p.size → 0 < W.number s x false
  positive s x l h =
      let z = W.zeroth s in
      let r = W.above_own s 0 x false false l (own (omega arith)) (own h) in
      omega arith

  pub lifted : (s : Bool) {x y : ℕ} {run : List ℕ} → Down p x run y → Down w (W.number s x false) run (W.number s y false)
  lifted s (here q) = here (ap (λ (n : ℕ). W.number s n false) q)
  lifted s (step z c l d) =
      step (W.number s z false)
      (record {
        not_root = positive s z c.not_root c.inside;
        inside = W.within s (own c.inside);
        below = W.parent_own s z c.not_root c.inside ∙ ap (λ (n : ℕ). W.number s n false) c.below;
      })
      (W.labels s (own c.inside) ∙ l) (lifted s d)
