-- Request 5: the tree that is written has each single label at most once under a node, if the pattern has and what hangs under u below it is not single.
use Rattle.std.specs.Prelude.{ℕ, ◌≤◌, ◌<◌, ◌≡◌, refl, Bool, true, false, T}
use Rattle.std.proofs.Common.{sym, ap, subst, ◌∙◌, arith}
use Rattle.std.proofs.Math.Decide.{dec_lt}
use Rattle.meaning.specs.Paths.{Class}
use Rattle.meaning.specs.Trees.{Table, Child, Once}
use Rattle.theory_counter.specs.Doubled.{Drawn, Stands, Spot, Written}
use Rattle.theory_counter.specs.Climb.{own, child_own, child_filler}

module _ {κ : ℕ → Class} {p : Table} {mark : ℕ → Bool} {u : ℕ} {w : Table} (D : Drawn κ p mark u) (W : Written κ p mark u w) (single : ℕ → Bool)
    (once : Once single p) (hangs : (x : ℕ) → x < p.size → u < x → p.parent x ≤ u → T (single (p.label x)) → ⊥) where
  -- of one copy, or of the trunk: the number is the same
  same_number : (s s' : Bool) (x : ℕ) (f : Bool) → (u < x → s ≡ s') → W.number s x f ≡ W.number s' x f
  same_number s s' x f h = go (dec_lt u x)
    where
      go : Dec (u < x) → W.number s x f ≡ W.number s' x f
      go (yes l) = ap (λ (b : Bool). W.number b x f) (h l)
      go (no l) = W.trunk_once s s' x f (omega arith)

  pub written_once : Once single w
  written_once = record { one = λ v n m a b t l. go v n m a b t l (W.spot n a.inside) (W.spot m b.inside) }
    where
      both_own : (v n m : ℕ) (s s' : Bool) (x y : ℕ) → Child w v n → Child w v m → T (single (w.label n)) → w.label n ≡ w.label m
          → x < p.size → y < p.size → n ≡ W.number s x false → m ≡ W.number s' y false → n ≡ m
      both_own v n m s s' x y a b t l hx hy e f =
          let c = child_own D W s x a e hx in
          let d = child_own D W s' y b f hy in
          let ax = D.above x c.0 hx in
          let ay = D.above y d.0 hy in
          let r = W.apart (own D W (omega arith)) (own D W (omega arith)) (sym c.1 ∙ d.1) in
          let lx : w.label n ≡ p.label x = ap (λ (k : ℕ). w.label k) e ∙ W.labels s (own D W hx) in
          let ly : w.label m ≡ p.label y = ap (λ (k : ℕ). w.label k) f ∙ W.labels s' (own D W hy) in
          let tx : T (single (p.label x)) = subst (λ (k : ℕ). T (single k)) lx t in
          let same : x ≡ y =
          once.one (p.parent x) x y (record { not_root = c.0; inside = hx; below = refl })
          (record { not_root = d.0; inside = hy; below = sym r.0 }) tx (sym lx ∙ l ∙ ly) in
          e ∙ same_number s s' x false (λ h. copy h tx r (dec_lt u (p.parent x))) ∙ ap (λ (k : ℕ). W.number s' k false) same ∙ sym f
        where
          copy : u < x → T (single (p.label x)) → (p.parent x ≡ p.parent y) × (false ≡ false) × (u < p.parent x → s ≡ s') → Dec (u < p.parent x) → s ≡ s'
          copy h tx r (yes q) = r.2 q
          copy h tx r (no q) = absurd (hangs x hx h (omega arith) tx)

      both_fill : (v n m : ℕ) (s s' : Bool) (x y : ℕ) → Child w v n → Child w v m → Stands κ p x true → Stands κ p y true
          → n ≡ W.number s x true → m ≡ W.number s' y true → n ≡ m
      both_fill v n m s s' x y a b sx sy e f =
          let r = W.apart (own D W sx.inside) (own D W sy.inside) (sym (child_filler D W s x a e sx) ∙ child_filler D W s' y b f sy) in
          e ∙ same_number s s' x true r.2 ∙ ap (λ (k : ℕ). W.number s' k true) r.0 ∙ sym f

      mixed : (n m : ℕ) (s s' : Bool) (x y : ℕ) → w.label n ≡ w.label m → Stands κ p x true → Stands κ p y false → n ≡ W.number s x true
          → m ≡ W.number s' y false → n ≡ m
      mixed n m s s' x y l sx sy e f =
          absurd
          (D.no_filler y sy.inside
          (sym (W.labels s' sy) ∙ ap (λ (k : ℕ). w.label k) (sym f) ∙ sym l ∙ ap (λ (k : ℕ). w.label k) e ∙ W.labels s sx))

      go : (v n m : ℕ) → Child w v n → Child w v m → T (single (w.label n)) → w.label n ≡ w.label m → Spot κ p W.number n
          → Spot κ p W.number m → n ≡ m
      go v n m a b t l i j = at i.filler j.filler i.stands j.stands i.here j.here
        where
          at : (f g : Bool) → Stands κ p i.node f → Stands κ p j.node g → n ≡ W.number i.second i.node f
              → m ≡ W.number j.second j.node g → n ≡ m
          at false false sx sy e q = both_own v n m i.second j.second i.node j.node a b t l sx.inside sy.inside e q
          at true true sx sy e q = both_fill v n m i.second j.second i.node j.node a b sx sy e q
          at true false sx sy e q = mixed n m i.second j.second i.node j.node l sx sy e q
          at false true sx sy e q = sym (mixed m n j.second i.second j.node i.node (sym l) sy sx q e)
