-- "Shorter first, equal lengths by bytes": a strict order, so paths that stand in it are put where they stand.
use Rattle.std.specs.Prelude.{ℕ, ◌≡◌, refl, List, [], ◌∷◌, ◌++◌, T}
use Rattle.std.proofs.Common.{ap, ◌∙◌}
use Rattle.std.proofs.Math.Seq.{append_snoc}
use Rattle.meaning.specs.Lists.{Each, end, also, before, ascending}
use Rattle.meaning.specs.Text.{put_path, in_record_order}
use Rattle.theory_lists.specs.Order.{before_trans, before_other}
use Rattle.theory_lists.specs.Bools.{and_left, and_right}

-- a path that stands behind all of them is put behind them
put_last : (p : List ℕ) (done : List (List ℕ)) → Each (λ (q : List ℕ). T (before q p)) done → put_path p done ≡ done ++ (p ∷ [])
unfolding put_path
put_last p [] end = refl
put_last p (q ∷ done) (also h hs) = rw (before_other p q h) (ap (λ (l : List (List ℕ)). q ∷ l) (put_last p done hs))

-- all of them stand before the first of what follows, which ascends
all_before : (done : List (List ℕ)) (p q : List ℕ) → Each (λ (r : List ℕ). T (before r p)) done → T (before p q) → Each (λ (r : List ℕ). T (before r q)) (done ++ (p ∷ []))
all_before [] p q end t = also t end
all_before (r ∷ done) p q (also h hs) t = also (before_trans r p q h t) (all_before done p q hs t)

order_from : (done : List (List ℕ)) (p : List ℕ) (ps : List (List ℕ)) → Each (λ (q : List ℕ). T (before q p)) done → T (ascending (p ∷ ps))
    → in_record_order done (p ∷ ps) ≡ done ++ (p ∷ ps)
unfolding in_record_order ascending
order_from done p [] h t = put_last p done h
order_from done p (q ∷ ps) h t =
    ap (λ (l : List (List ℕ)). in_record_order l (q ∷ ps)) (put_last p done h)
    ∙ (order_from (done ++ (p ∷ [])) q ps (all_before done p q h (and_left (before p q) (ascending (q ∷ ps)) t)) (and_right (before p q) (ascending (q ∷ ps)) t)
    ∙ append_snoc done p (q ∷ ps))

-- paths that ascend are in record order
pub in_order : (ps : List (List ℕ)) → T (ascending ps) → in_record_order [] ps ≡ ps
unfolding in_record_order
in_order [] t = refl
in_order (p ∷ ps) t = order_from [] p ps end t
