-- In the pattern of an accepted question each single label stands at most once under a node (request 5): only t has several children, and two key
-- paths of one attribute label would be the same.
use Prim.Native.Nat.{ℕ, zero, suc, ◌≤◌, ◌<◌}
use Rattle.std.specs.Prelude.{◌≡◌, refl, ◌⊎◌, Bool, length, take}
use Rattle.std.proofs.Math.Path.{sym, ap}
use Rattle.std.proofs.Common.{subst, ◌∙◌, inl, inr, arith, length-take, drop_of_length-le, get_or-take}
use mathlib.Core.List.{List, [], ◌∷◌, ◌++◌}
use Rattle.std.proofs.Math.Dec.{T}
use Rattle.std.proofs.Math.ListN.{get_or, drop}
use Rattle.std.proofs.Math.Seq.{drop-cons, drop-append_seam}
use Rattle.meaning.specs.Limits.{in_profile}
use Rattle.meaning.specs.Lists.{before, ascending}
use Rattle.meaning.specs.Paths.{Label, class_of, singles}
use Rattle.meaning.specs.Trees.{Child, Once}
use Rattle.meaning.specs.Keys.{Key}
use Rattle.meaning.specs.Pattern.{drawn, pattern, t_of}
use Rattle.theory_lists.specs.Bools.{and_left, and_right, every_each}
use Rattle.theory_paths.specs.Valid.{may_step}
use Rattle.theory_paths.specs.Good.{GoodLabels, GoodKey, paths_some, paths_ascending}
use Rattle.theory_lists.specs.Lists.{get_or_mem}
use Rattle.theory_lists.specs.Logic.{less_or}
use Rattle.theory_pattern.specs.Spots.{chain_of, branch_of, row_of}
use Rattle.theory_lists.specs.Order.{before_itself, before_trans}
use Rattle.theory_pattern.specs.Rows.{chain_length, before_steps}
use Rattle.theory_pattern.specs.Numbers.{spot_node, spot_chain}
use Rattle.theory_pattern.specs.Places.{IsSpot, Place, spot_label, spot_parent, spot_above, place_of, spot_once, spot_shared}
use Rattle.theory_pattern.specs.Singles.{single_stays, single_drawn}

-- ".., none twice": each stands before every later one
before_later : (p : List ℕ) (qs : List (List ℕ)) (n : ℕ) → T (ascending (p ∷ qs)) → n < length qs → T (before p (get_or qs n []))
unfolding ascending
before_later p [] n a h = absurd (omega arith)
before_later p (q ∷ qs) zero a h = and_left (before p q) (ascending (q ∷ qs)) a
before_later p (q ∷ qs) (suc n) a h =
    before_trans p q (get_or qs n []) (and_left (before p q) (ascending (q ∷ qs)) a)
    (before_later q qs n (and_right (before p q) (ascending (q ∷ qs)) a) (omega arith))

ascending_rest : (p : List ℕ) (qs : List (List ℕ)) → T (ascending (p ∷ qs)) → T (ascending qs)
unfolding ascending
ascending_rest p [] a = tt
ascending_rest p (q ∷ qs) a = and_right (before p q) (ascending (q ∷ qs)) a

paths_once : (ps : List (List ℕ)) (i j : ℕ) → T (ascending ps) → i < length ps → j < length ps → get_or ps i [] ≡ get_or ps j [] → i ≡ j
paths_once [] i j a h k e = absurd (omega arith)
paths_once (p ∷ ps) zero zero a h k e = refl
paths_once (p ∷ ps) zero (suc j) a h k e =
    absurd (before_itself p (subst (λ (q : List ℕ). T (before p q)) (sym e) (before_later p ps j a (omega arith))))
paths_once (p ∷ ps) (suc i) zero a h k e =
    absurd (before_itself p (subst (λ (q : List ℕ). T (before p q)) e (before_later p ps i a (omega arith))))
paths_once (p ∷ ps) (suc i) (suc j) a h k e = ap suc (paths_once ps i j (ascending_rest p ps a) (omega arith) (omega arith) e)

module _ (second : Bool) (labels : List Label) (gl : GoodLabels labels) (asked : Key) (g : GoodKey labels in_profile asked) where
  abbrev single : ℕ → Bool
  single = singles second (class_of labels)

  -- the symbol of a single label stands last on its line
  steps_at : (j k : ℕ) → j < length asked.paths → suc k < length (row_of asked j) → T (may_step (class_of labels) (get_or (row_of asked j) k 0))
  steps_at j k b h =
      subst (λ (n : ℕ). T (may_step (class_of labels) n)) (get_or-take (suc k) (row_of asked j) k 0 (omega arith))
      (every_each (may_step (class_of labels)) (take (suc k) (row_of asked j)) (before_steps labels asked g (suc k) j b h)
      (get_or (take (suc k) (row_of asked j)) k 0) (get_or_mem (take (suc k) (row_of asked j)) k 0 (omega (arith, length-take (suc k) (row_of asked j)))))

  pub single_end : (j k : ℕ) → IsSpot asked j (suc k) → T (single ((pattern asked).label (spot_node asked j (suc k)))) → length (row_of asked j) ≡ suc k
  single_end j k s t = go (less_or (suc k) (length (row_of asked j)))
    where
      go : (suc k < length (row_of asked j)) ⊎ (length (row_of asked j) ≤ suc k) → length (row_of asked j) ≡ suc k
      go (inr l) = omega (arith, s.on_row)
      go (inl l) =
          absurd
          (single_stays second labels gl (get_or (row_of asked j) k 0) (subst (λ (n : ℕ). T (single n)) (spot_label asked j k s) t) (steps_at j k s.is_branch l))

  -- a branch of one symbol is that symbol
  branch_one : (j : ℕ) → length (row_of asked j) ≡ suc (t_of asked) → branch_of asked j ≡ get_or (row_of asked j) (t_of asked) 0 ∷ []
  unfolding row_of
  branch_one j e =
      sym (drop-append_seam (chain_of asked) (branch_of asked j))
      ∙ ap (λ (n : ℕ). drop n (chain_of asked ++ branch_of asked j)) (chain_length asked)
      ∙ drop-cons (row_of asked j) (t_of asked) 0 (omega arith)
      ∙ ap {B = List ℕ} (λ (r : List ℕ). get_or (row_of asked j) (t_of asked) 0 ∷ r) (drop_of_length-le (row_of asked j) {i = suc (t_of asked)} (omega arith))

  drawn_one : (m n : ℕ) → T (single (drawn m)) → T (single (drawn n)) → drawn m ≡ drawn n → m ≡ n
  unfolding drawn
  drawn_one m n a b e = single_same m a ∙ e ∙ sym (single_same n b)
    where
      single_same : (k : ℕ) → T (single (drawn k)) → k ≡ drawn k
      single_same k t = single_drawn second labels gl k t

  pub pattern_once : Once single (pattern asked)
  pattern_once = record { one = λ v x y a b t l. go v x y a b t l (place_of asked (paths_some labels in_profile asked g) x a.inside) (place_of asked (paths_some labels in_profile asked g) y b.inside) }
    where
      at : (v x y i k j m : ℕ) → Child (pattern asked) v x → Child (pattern asked) v y → T (single ((pattern asked).label x))
          → (pattern asked).label x ≡ (pattern asked).label y → IsSpot asked i k → IsSpot asked j m → x ≡ spot_node asked i k → y ≡ spot_node asked j m → x ≡ y
      at v x y i zero j m a b t l s u e f = absurd (let z : x ≡ 0 = e ∙ spot_chain asked i 0 (omega arith) in omega (arith, a.not_root))
      at v x y i (suc k) j zero a b t l s u e f = absurd (let z : y ≡ 0 = f ∙ spot_chain asked j 0 (omega arith) in omega (arith, b.not_root))
      at v x y i (suc k) j (suc m) a b t l s u e f =
          let up : spot_node asked i k ≡ spot_node asked j m =
          sym (spot_parent asked i k s) ∙ sym (ap (pattern asked).parent e) ∙ a.below ∙ sym b.below ∙ ap (pattern asked).parent f ∙ spot_parent asked j m u in
          let o = spot_once asked i j k m (spot_above asked i k (suc k) (omega arith) s) (spot_above asked j m (suc m) (omega arith) u) up in
          let same : y ≡ spot_node asked j (suc k) = f ∙ ap (λ (d : ℕ). spot_node asked j (suc d)) (sym o.0) in
          let u' : IsSpot asked j (suc k) = subst (λ (d : ℕ). IsSpot asked j (suc d)) (sym o.0) u in
          e ∙ spot_shared asked i j (suc k) (λ h. branch h o u' same) ∙ sym same
        where
          branch : t_of asked < suc k → (k ≡ m) × (t_of asked < k → i ≡ j) → IsSpot asked j (suc k) → y ≡ spot_node asked j (suc k) → i ≡ j
          branch h o u' same = pick (less_or (t_of asked) k)
            where
              pick : (t_of asked < k) ⊎ (k ≤ t_of asked) → i ≡ j
              pick (inl q) = o.1 q
              pick (inr q) =
                  let z : k ≡ t_of asked = omega arith in
                  let tx : T (single ((pattern asked).label (spot_node asked i (suc k)))) = subst (λ (n : ℕ). T (single ((pattern asked).label n))) e t in
                  let ty : T (single ((pattern asked).label (spot_node asked j (suc k)))) =
                  subst (λ (n : ℕ). T (single ((pattern asked).label n))) same (subst (λ (n : ℕ). T (single n)) l t) in
                  let ei = single_end i k s tx in
                  let ej = single_end j k u' ty in
                  let dl : drawn (get_or (row_of asked i) k 0) ≡ drawn (get_or (row_of asked j) k 0) =
                  sym (spot_label asked i k s) ∙ ap (pattern asked).label (sym e) ∙ l ∙ ap (pattern asked).label same ∙ spot_label asked j k u' in
                  let one = drawn_one (get_or (row_of asked i) k 0) (get_or (row_of asked j) k 0)
                  (subst (λ (n : ℕ). T (single n)) (spot_label asked i k s) tx) (subst (λ (n : ℕ). T (single n)) (spot_label asked j k u') ty) dl in
                  paths_once asked.paths i j (paths_ascending labels in_profile asked g) s.is_branch u.is_branch
                  (same_branch z ei ej one)
                where
                  same_branch : k ≡ t_of asked → length (row_of asked i) ≡ suc k → length (row_of asked j) ≡ suc k
                      → get_or (row_of asked i) k 0 ≡ get_or (row_of asked j) k 0 → get_or asked.paths i [] ≡ get_or asked.paths j []
                  same_branch z ei ej one =
                      unfold branch_of in
                      branch_one i (omega arith) ∙ ap (λ (n : ℕ). get_or (row_of asked i) n 0 ∷ []) (sym z) ∙ ap (λ (n : ℕ). n ∷ []) one
                      ∙ ap (λ (n : ℕ). get_or (row_of asked j) n 0 ∷ []) z ∙ sym (branch_one j (omega arith))

      go : (v x y : ℕ) → Child (pattern asked) v x → Child (pattern asked) v y → T (single ((pattern asked).label x))
          → (pattern asked).label x ≡ (pattern asked).label y → Place asked x → Place asked y → x ≡ y
      go v x y a b t l p q = at v x y p.branch p.depth q.branch q.depth a b t l p.spot q.spot p.place q.place
