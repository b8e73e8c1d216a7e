-- The written tree is a tree, and in it two different value-equal nodes are the twins of one marked pattern node, or of its filler.
use Rattle.std.specs.Prelude.{ℕ, zero, suc, ◌<◌, ◌≡◌, refl, ◌≢◌, Bool, ◌&&◌, not}
use Rattle.std.proofs.Common.{sym, ◌∙◌, arith}
use Rattle.std.proofs.Math.Path.{ap, subst}
use Rattle.std.proofs.Math.Bool.{true, false}
use Rattle.std.proofs.Math.Dec.{T}
use Rattle.meaning.specs.Limits.{filler_attribute}
use Rattle.meaning.specs.Paths.{Class, element, attribute, text, is_element}
use Rattle.meaning.specs.Trees.{Table, IsTree, Placed, Child, here, Equal, leaves, elements}
use Rattle.theory_trees.specs.Laws.{equal_label, equal_value, equal_child}
use Rattle.theory_counter.specs.Doubled.{Drawn, Stands, Spot, Written}
use Rattle.theory_counter.specs.Climb.{own, child_filler}

pub class_element : (k : Class) → T (is_element k) → k ≡ element
unfolding is_element
class_element element t = refl
class_element attribute t = absurd t
class_element text t = absurd t

module _ {κ : ℕ → Class} {p : Table} {mark : ℕ → Bool} {u : ℕ} {w : Table} (D : Drawn κ p mark u) (W : Written κ p mark u w) where
  -- an own node of the tree has its pattern node's label
  element_at : (s : Bool) {x : ℕ} → x < p.size → T (is_element (κ (p.label x))) → κ (w.label (W.number s x false)) ≡ element
  element_at s {x} h t = ap κ (W.labels s (own D W h)) ∙ class_element (κ (p.label x)) t

  placed : (n : ℕ) → 0 < n → Spot κ p W.number n → Placed κ w n
  placed n pos i = go i.filler i.node i.stands i.here
    where
      s : Bool
      s = i.second

      go : (f : Bool) (x : ℕ) → Stands κ p x f → n ≡ W.number s x f → Placed κ w n
      go false zero st e = absurd (let z = W.zeroth s in omega arith)
      go false (suc x) st e =
          let h = st.inside in
          let a = D.above (suc x) (omega arith) h in
          let q : w.parent n ≡ W.number s (p.parent (suc x)) false = ap (λ (k : ℕ). w.parent k) e ∙ W.parent_own s (suc x) (omega arith) h in
          let lt = W.above_own s (p.parent (suc x)) (suc x) false false a (own D W (omega arith)) (own D W h) in
          record {
            above = omega arith;
            inside =
                ap (λ (k : ℕ). κ (w.label k)) q
                ∙ element_at s (omega arith) (D.inside (suc x) (omega arith) h);
            not_root =
                λ r. D.no_root (suc x) (omega arith) h (sym (W.labels s (own D W h)) ∙ ap (λ (k : ℕ). w.label k) (sym e) ∙ r);
          }
      go true x st e =
          let q : w.parent n ≡ W.number s x false = ap (λ (k : ℕ). w.parent k) e ∙ W.parent_filler s x st in
          let lt = W.above_filler s x st in
          let l : w.label n ≡ filler_attribute = ap (λ (k : ℕ). w.label k) e ∙ W.labels s st in
          record {
            above = omega arith;
            inside = ap (λ (k : ℕ). κ (w.label k)) q ∙ element_at s st.inside (st.owner tt);
            not_root = λ r. omega arith;
          }

  pub written_tree : IsTree κ w
  written_tree =
      let t = D.trunk in
      let z = W.zeroth false in
      let o = own D W {x = 0} (omega arith) in
      record {
        some = let h = W.within false o in omega arith;
        root = ap (λ (k : ℕ). w.label k) (sym z) ∙ W.labels false o ∙ D.root;
        rest = λ n pos h. placed n pos (W.spot n h);
      }

-- Nodes n and m of the tree belong to one pattern node, or are both its filler; if they differ, it is marked
pub record Twins (κ : ℕ → Class) (p : Table) (mark : ℕ → Bool) (number : Bool → ℕ → Bool → ℕ) (n m : ℕ) : Type 0 where
  pub first_copy : Bool
  pub second_copy : Bool
  pub node : ℕ
  pub filler : Bool
  pub stands : Stands κ p node filler
  pub first : n ≡ number first_copy node filler
  pub second : m ≡ number second_copy node filler
  pub marked : n ≢ m → T (mark node)

module _ {κ : ℕ → Class} {p : Table} {mark : ℕ → Bool} {u : ℕ} {w : Table} (D : Drawn κ p mark u) (W : Written κ p mark u w) where
  -- "An attribute or text node has its own node number as value, except that in the second copy a marked node .. has the value of its twin."
  leaf_marked : (s s' : Bool) (x : ℕ) (f : Bool) (b : Bool) → mark x ≡ b → W.number (s && not b) x f ≡ W.number (s' && not b) x f
      → W.number s x f ≢ W.number s' x f → T (mark x)
  leaf_marked s s' x f true e q h = subst (λ (b : Bool). T b) (sym e) tt
  leaf_marked s s' x f false e q h = absurd (h (go s s' q))
    where
      go : (s s' : Bool) → W.number (s && true) x f ≡ W.number (s' && true) x f → W.number s x f ≡ W.number s' x f
      go true true q = q
      go true false q = q
      go false true q = q
      go false false q = q

  pub leaf_twins : {n m : ℕ} → Spot κ p W.number n → Spot κ p W.number m → T (not (is_element (κ (w.label n))))
      → T (not (is_element (κ (w.label m)))) → w.value n ≡ w.value m → Twins κ p mark W.number n m
  leaf_twins {n} {m} i j a b v =
      let s = i.second in
      let s' = j.second in
      let x = i.node in
      let x' = j.node in
      let vi = W.value_leaf s i.stands (subst (λ (k : ℕ). T (not (is_element (κ (w.label k))))) i.here a) in
      let vj = W.value_leaf s' j.stands (subst (λ (k : ℕ). T (not (is_element (κ (w.label k))))) j.here b) in
      let eq : W.number (s && not (mark x)) x i.filler ≡ W.number (s' && not (mark x')) x' j.filler =
      sym vi ∙ ap (λ (k : ℕ). w.value k) (sym i.here) ∙ v ∙ ap (λ (k : ℕ). w.value k) j.here ∙ vj in
      let r = W.apart i.stands j.stands eq in
      let e : m ≡ W.number s' x i.filler =
      j.here ∙ ap (λ (k : ℕ). W.number s' k j.filler) (sym r.0) ∙ ap (λ (k : Bool). W.number s' x k) (sym r.1) in
      record {
        first_copy = s;
        second_copy = s';
        node = x;
        filler = i.filler;
        stands = i.stands;
        first = i.here;
        second = e;
        marked =
            λ d.
            leaf_marked s s' x i.filler (mark x) refl
            (eq ∙ ap (λ (k : ℕ). W.number (s' && not (mark k)) k j.filler) (sym r.0)
            ∙ ap (λ (k : Bool). W.number (s' && not (mark x)) x k) (sym r.1))
            (λ q. d (i.here ∙ q ∙ sym e));
      }

  -- an element of the tree is no filler
  own_spot : {n : ℕ} → T (is_element (κ (w.label n))) → Spot κ p W.number n → (s : Bool) × (x : ℕ) × (x < p.size) × (n ≡ W.number s x false)
  unfolding is_element
  own_spot {n} e i = go i.filler i.stands i.here
    where
      go : (f : Bool) → Stands κ p i.node f → n ≡ W.number i.second i.node f
          → (s : Bool) × (x : ℕ) × (x < p.size) × (n ≡ W.number s x false)
      go false st q = (i.second, i.node, st.inside, q)
      go true st q =
          absurd
          (subst (λ (k : Class). T (is_element k)) (ap (λ (k : ℕ). κ (w.label k)) q ∙ ap κ (W.labels i.second st) ∙ D.filler) e)

  pub filler_leaf : {n : ℕ} → w.label n ≡ filler_attribute → T (not (is_element (κ (w.label n))))
  unfolding is_element
  filler_leaf l = subst (λ (k : Class). T (not (is_element k))) (sym (ap κ l ∙ D.filler)) tt

  pub filler_child : (s : Bool) {n x : ℕ} → n ≡ W.number s x false → Stands κ p x true → Child w n (W.number s x true)
  filler_child s {x = x} e st =
      record {
        not_root = let h = W.above_filler s x st in omega arith;
        inside = W.within s st;
        below = W.parent_filler s x st ∙ sym e;
      }

  -- the twins of the fillers are those of their owners
  owners : {n m c d : ℕ} → Child w n c → Child w m d → w.label c ≡ filler_attribute → Twins κ p mark W.number c d
      → Twins κ p mark W.number n m
  owners {n} {m} {c} {d} nc md l t = go t.filler t.stands t.first t.second
    where
      go : (f : Bool) → Stands κ p t.node f → c ≡ W.number t.first_copy t.node f → d ≡ W.number t.second_copy t.node f
          → Twins κ p mark W.number n m
      go false st e e' =
          absurd
          (D.no_filler t.node st.inside
          (sym (W.labels t.first_copy st) ∙ ap (λ (k : ℕ). w.label k) (sym e) ∙ l))
      go true st e e' =
          record {
            first_copy = t.first_copy;
            second_copy = t.second_copy;
            node = t.node;
            filler = false;
            stands = own D W st.inside;
            first = child_filler D W t.first_copy t.node nc e st;
            second = child_filler D W t.second_copy t.node md e' st;
            marked = λ h. t.marked (λ q. h (sym nc.below ∙ ap (λ (k : ℕ). w.parent k) q ∙ md.below));
          }

  pub equal_twins : {n m : ℕ} → n < w.size → m < w.size → Equal κ w n m → Twins κ p mark W.number n m
  equal_twins {n} {m} hn hm (leaves l a v) =
      leaf_twins (W.spot n hn) (W.spot m hm) a (subst (λ (k : ℕ). T (not (is_element (κ k)))) l a) v
  equal_twins {n} {m} hn hm (elements l e ats os) =
      let i = own_spot e (W.spot n hn) in
      let st : Stands κ p i.1 true =
      record {
        inside = i.2;
        owner = λ t. subst (λ (k : ℕ). T (is_element (κ k))) (ap (λ (k : ℕ). w.label k) i.3 ∙ W.labels i.0 (own D W i.2)) e;
      } in
      let c = W.number i.0 i.1 true in
      let nc = filler_child i.0 i.3 st in
      let mate = equal_child (written_tree D W) (elements l e ats os) nc in
      let lc : w.label c ≡ filler_attribute = W.labels i.0 st in
      let ld : w.label mate.node ≡ filler_attribute = sym (equal_label mate.equal) ∙ lc in
      owners nc mate.child lc
      (leaf_twins (W.spot c nc.inside) (W.spot mate.node mate.child.inside) (filler_leaf lc) (filler_leaf ld)
      (equal_value mate.equal (filler_leaf lc)))
