-- ARGUMENT §6, "It breaks the question": the twins of t, reached from q, and for each key path the twins of its branch's end.
use Rattle.std.specs.Prelude.{ℕ, ◌≤◌, ◌<◌, ◌≡◌, Bool, true, false, List}
use Rattle.std.proofs.Common.{sym, arith}
use Rattle.std.proofs.lemmas.Bool.{false≢true}
use Rattle.meaning.specs.Lists.{Each}
use Rattle.meaning.specs.Lists.Each.{end, also}
use Rattle.meaning.specs.Paths.{Class}
use Rattle.meaning.specs.Trees.{Table, Reached}
use Rattle.meaning.specs.Keys.{Key, EqualPair, Breaks}
use Rattle.theory_trees.specs.Below.{down_from, ParentsSmaller, down_greater, down_inside}
use Rattle.theory_counter.specs.Doubled.{Drawn, Written}
use Rattle.theory_counter.specs.Climb.{own, lifted}
use Rattle.theory_counter.specs.Crossing.{Marks}
use Rattle.theory_counter.specs.Copies.{copies_equal}

-- The asked key in its pattern: q in the trunk, t below it, and each key path leads to a mark
pub record InPattern (p : Table) (mark : ℕ → Bool) (u : ℕ) (k : Key) : Type 0 where
  pub q : ℕ
  pub t : ℕ
  pub in_trunk : q ≤ u
  pub below_trunk : u < t
  pub inside : t < p.size
  pub context : Reached p 0 k.context q
  pub target : Reached p q k.target t
  pub ends : Each (Marks p mark t) k.paths

module _ {κ : ℕ → Class} {p : Table} {mark : ℕ → Bool} {u : ℕ} {w : Table} (D : Drawn κ p mark u) (W : Written κ p mark u w) where
  drawn_smaller : ParentsSmaller p
  unfolding ParentsSmaller
  drawn_smaller = D.above

  lifted_reach : (s : Bool) {x y : ℕ} {P : List ℕ} → Reached p x P y → Reached w (W.number s x false) P (W.number s y false)
  lifted_reach s r = record { run = r.run; down = lifted D W s r.down; word = r.word }

  from_node : {v v' n : ℕ} {P : List ℕ} → v ≡ v' → Reached w v P n → Reached w v' P n
  from_node e r = record { run = r.run; down = down_from (sym e) r.down; word = r.word }

  marked_pair : (t : ℕ) → u < t → t < p.size → {P : List ℕ} → Marks p mark t P
      → EqualPair κ w (W.number false t false) (W.number true t false) P
  marked_pair t b h m =
      let l = down_greater drawn_smaller m.reached.down in
      record {
        x = W.number false m.node false;
        y = W.number true m.node false;
        from_first = lifted_reach false m.reached;
        from_second = lifted_reach true m.reached;
        equal = copies_equal D W m.node (omega arith) (down_inside m.reached.down h) m.is_marked;
      }

  all_pairs : (t : ℕ) → u < t → t < p.size → {Ps : List (List ℕ)} → Each (Marks p mark t) Ps
      → Each (EqualPair κ w (W.number false t false) (W.number true t false)) Ps
  all_pairs t b h end = end
  all_pairs t b h (also m ms) = also (marked_pair t b h m) (all_pairs t b h ms)

  pub asked_breaks : (k : Key) → InPattern p mark u k → Breaks κ w k
  asked_breaks k a =
      let q = a.q in
      let t = a.t in
      record {
        q = W.number false q false;
        a = W.number false t false;
        b = W.number true t false;
        context = from_node (W.zeroth false) (lifted_reach false a.context);
        first = lifted_reach false a.target;
        second = from_node (W.trunk_once true false q false a.in_trunk) (lifted_reach true a.target);
        different = λ e. false≢true ((W.apart (own D W a.inside) (own D W a.inside) e).2 a.below_trunk);
        pairs = all_pairs t a.below_trunk a.inside a.ends;
      }
