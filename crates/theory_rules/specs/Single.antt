-- Rule 10 (request 5): where a label stands at most once under an element, a key that targets it alone is kept.
use Rattle.std.specs.Prelude.{ℕ, ◌≡◌, refl, ◌⊎◌, Bool, true, false, ◌||◌, not, List, [], ◌∷◌, T, eqb}
use Rattle.std.proofs.Common.{sym, ◌∙◌, ap, subst, inl, inr, arith, eqb→eq}
use Rattle.meaning.specs.Limits.{root_label}
use Rattle.meaning.specs.Paths.{Class, is_attribute, Label, declared, class_of, is_label, Agrees, singles, simple}
use Rattle.meaning.specs.Trees.{Table, Child, Once, Down, here, step, Reached}
use Rattle.meaning.specs.Keys.{Key, Keeps}
use Rattle.meaning.specs.Rules.{OneAttribute}
use Rattle.theory_lists.specs.Bools.{and_left, and_right, both, or_left, or_right, T-cases, eqb_of, neqb_of}
use Rattle.theory_paths.specs.Good.{GoodLabels, undeclared_class, undeclared_low}
use Rattle.theory_trees.specs.Reach.{reached_down}

-- a node reached by one label is a child that has it
record ByLabel (t : Table) (v l w : ℕ) : Type 0 where
  child : Child t v w
  label : t.label w ≡ l

down_one : {t : Table} {v l w : ℕ} → Down t v (l ∷ []) w → ByLabel t v l w
down_one {t} {v} (step x c e (here p)) = record { child = subst (Child t v) p c; label = ap (λ (n : ℕ). t.label n) (sym p) ∙ e }

one_simple : (l : ℕ) → (l ≡ 0 → ⊥) → T (simple (l ∷ []))
unfolding simple Rattle.meaning.specs.Lists.every
one_simple l n = both (not (eqb l 0)) true (neqb_of l 0 n) tt

pub one_attribute_kept : (κ : ℕ → Class) (t : Table) (single : ℕ → Bool) → Once single t → (k : Key) → (r : OneAttribute single k)
    → (r.label ≡ 0 → ⊥) → Keeps κ t k
unfolding Keeps
one_attribute_kept κ t single once k r n w =
    let s = one_simple r.label n in
    let a = down_one (reached_down (r.label ∷ []) s (subst (λ (P : List ℕ). Reached t w.q P w.a) r.target w.first)) in
    let b = down_one (reached_down (r.label ∷ []) s (subst (λ (P : List ℕ). Reached t w.q P w.b) r.target w.second)) in
    w.different
    (once.one w.q w.a w.b a.child b.child (subst (λ (l : ℕ). T (single l)) (sym a.label) r.is_single) (a.label ∙ sym b.label))

-- an attribute's label is one that every class function agrees on, and not the any-path
record Known (labels : List Label) (l : ℕ) : Type 0 where
  known : T (is_label labels l)
  not_any : l ≡ 0 → ⊥

attribute_known : (labels : List Label) → GoodLabels labels → (l : ℕ) → T (is_attribute (class_of labels l)) → Known labels l
unfolding class_of is_label is_attribute
attribute_known labels good l h = go (eqb l 1) refl (eqb l 202) refl (T-cases (declared labels l))
  where
    go : (a : Bool) → eqb l 1 ≡ a → (b : Bool) → eqb l 202 ≡ b → T (declared labels l) ⊎ (T (declared labels l) → ⊥) → Known labels l
    go true e b f d = absurd (rw e at h)
    go false e true f d =
        let q : l ≡ 202 = eqb→eq l 202 (subst T (sym f) tt) in
        record { known = or_right (eqb l 1 || declared labels l || eqb l 201) (eqb l 202) (eqb_of l 202 q); not_any = λ z. omega arith }
    go false e false f (inl d) =
        record {
          known = or_left (eqb l 1 || declared labels l || eqb l 201) (eqb l 202) (or_left (eqb l 1 || declared labels l) (eqb l 201) (or_right (eqb l 1) (declared labels l) d));
          not_any = λ z. undeclared_low labels good l (omega arith) d;
        }
    go false e false f (inr n) = absurd (rw (e, f, undeclared_class labels l n) at h)

-- rule 10 of a profile, on a tree of its edition
pub single_kept : (second : Bool) (labels : List Label) → GoodLabels labels → (κ : ℕ → Class) → Agrees labels κ → (t : Table)
    → Once (singles second κ) t → (k : Key) → OneAttribute (singles second (class_of labels)) k → Keeps κ t k
unfolding singles Agrees
single_kept second labels good κ agrees t once k r =
    let a = and_right second (is_attribute (class_of labels r.label)) r.is_single in
    let n = attribute_known labels good r.label a in
    one_attribute_kept κ t (singles second κ) once k
    (record {
      label = r.label;
      is_single = both second (is_attribute (κ r.label)) (and_left second (is_attribute (class_of labels r.label)) r.is_single)
          (subst (λ (c : Class). T (is_attribute c)) (sym (agrees r.label (or_left (is_label labels r.label) (eqb r.label root_label) n.known))) a);
      target = r.target;
    })
    n.not_any
