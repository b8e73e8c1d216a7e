-- What salvage keeps of each record, and what it drops: "Every kept node has the label and value it had", "with all its descendants".
use Prim.Native.Nat.{ℕ, zero, suc, ◌*◌, ◌<◌, ◌≤◌}
use Rattle.std.specs.Prelude.{◌≡◌, ◌⊎◌, Bool, drop}
use Rattle.std.proofs.Math.Path.{refl, sym, ap, subst}
use Rattle.std.proofs.Common.{◌∙◌, eq-or-lt_of_le}
use Rattle.std.proofs.Math.Logic.{inl, inr, ⊎_elim}
use Rattle.std.proofs.Math.Bool.{true, cond}
use mathlib.Core.List.{List, [], ◌∷◌, ◌++◌, append-nil}
use native.Mathlib.Omega.{arith}
use Rattle.std.proofs.Math.Decide.{dec_lt}
use borrow.Author.Tests.{ltb-true, eq-eqb, le-ltb}
use Rattle.std.proofs.Math.ListN.{length, get_or, get_or-append, length-append}
use Rattle.std.proofs.Math.Seq.{get_or-append_seam}
use Rattle.meaning.specs.Limits.{no_number}
use Rattle.meaning.specs.Lists.{is_empty}
use Rattle.meaning.specs.Paths.{Label}
use Rattle.meaning.specs.Trees.{Node, no_node}
use Rattle.meaning.specs.Records.{record_length, record_kind, record_body, read_node}
use Rattle.meaning.specs.Refusals.{first_of, good_root, good_below, node_kind_in}
use Rattle.meaning.specs.Operations.{records_from}
use Rattle.meaning.specs.Salvage.{Salvaged, nothing_yet, moved, drop_tests, keep_or_drop, salvage_next, salvage_tests, salvage_walked, salvage_refusal}
use Rattle.theory_records.specs.Tests.{both}
use Rattle.theory_records.specs.Bytes.{Bytes}
use Rattle.theory_records.specs.Judged.{some_empty, none_empty}
use Rattle.theory_records.specs.Profiles.{length_more}
use Rattle.theory_records.specs.TreeFiles.{stride, root_says, kind_in}
use Rattle.theory_records.specs.Walks.{Stopped, walk_keeps}
use Rattle.theory_salvage.specs.Salvages.{SalvageAt, salvage_none, salvage_kept, salvage_size, passes, only_long}

-- the node that record k of the damaged file says
unfoldable pub node_of : List ℕ → ℕ → Node
node_of bytes k = read_node (record_body (records_from k bytes))

-- its new number, 65535 where it was dropped
unfoldable pub place_of : Salvaged → ℕ → ℕ
place_of s k = get_or s.places k no_number

-- the node of record k among those kept
unfoldable pub kept_as : Salvaged → ℕ → Node
kept_as s k = get_or s.nodes (place_of s k) no_node

-- Record k, which says r, was kept: it has its label and value; the root's parent is as it was, and every other's is its parent record's new number
pub record AsWas (s : Salvaged) (k : ℕ) (r : Node) : Type 0 where
  pub number : place_of s k < length s.nodes
  pub label : (kept_as s k).label ≡ r.label
  pub value : (kept_as s k).value ≡ r.value
  pub root : k ≡ 0 → (kept_as s k).parent ≡ r.parent
  pub earlier : 0 < k → r.parent < k
  pub parent : 0 < k → (kept_as s k).parent ≡ place_of s r.parent
  pub above : 0 < k → (kept_as s k).parent < place_of s k

-- A record was kept and has no reason, or was dropped and has one
unfoldable pub Told : Salvaged → ℕ → Type 0
Told s k = ((place_of s k < 65535) × (get_or s.reasons k 0 ≡ 0)) ⊎ ((place_of s k ≡ 65535) × (0 < get_or s.reasons k 0))

-- What holds after n records
pub record WasAt (second : Bool) (labels : List Label) (bytes : List ℕ) (n : ℕ) (s : Salvaged) (rest : List ℕ) : Type 0 where
  pub base : SalvageAt second (node_kind_in bytes) labels bytes n s rest
  pub here : rest ≡ records_from n bytes
  pub placed : length s.places ≡ n
  pub reasoned : length s.reasons ≡ n
  pub was : (k : ℕ) → k < n → place_of s k < 65535 → AsWas s k (node_of bytes k)
  pub told : (k : ℕ) → k < n → Told s k
  pub ordered : (k m : ℕ) → k < m → m < n → place_of s k < 65535 → place_of s m < 65535 → place_of s k < place_of s m
  pub from : (i : ℕ) → i < length s.nodes → (k : ℕ) × (k < n) × (place_of s k ≡ i)

from_more : (n : ℕ) (l : List ℕ) → drop (record_length (records_from n l)) (records_from n l) ≡ records_from (suc n) l
unfolding records_from
from_more zero l = refl
from_more (suc n) l = from_more n (drop (record_length l) l)

-- the state after one record more, kept or dropped
after : Salvaged → List Node → ℕ → ℕ → Salvaged
after s nodes place reason = record { nodes = s.nodes ++ nodes; places = s.places ++ (place ∷ []); reasons = s.reasons ++ (reason ∷ []) }

beyond : (l : List ℕ) (k d : ℕ) → length l ≤ k → get_or l k d ≡ d
beyond [] k d h = refl
beyond (x ∷ l) zero d h = absurd (omega arith)
beyond (x ∷ l) (suc k) d h = beyond l k d (omega arith)

module _ (s : Salvaged) (nodes : List Node) (place reason : ℕ) where
  old_place : (k : ℕ) → k < length s.places → place_of (after s nodes place reason) k ≡ place_of s k
  unfolding place_of after
  old_place k h = get_or-append s.places (place ∷ []) no_number k h

  new_place : place_of (after s nodes place reason) (length s.places) ≡ place
  unfolding place_of after
  new_place = get_or-append_seam s.places place [] no_number

  old_node : (k : ℕ) → k < length s.places → place_of s k < length s.nodes → kept_as (after s nodes place reason) k ≡ kept_as s k
  unfolding kept_as
  old_node k h i =
      ap (λ (j : ℕ). get_or (after s nodes place reason).nodes j no_node) (old_place k h)
      ∙ (unfold after in get_or-append s.nodes nodes no_node (place_of s k) i)

  -- what holds of a record that was kept before stays
  old_was : (k : ℕ) (r : Node) → k < length s.places → AsWas s k r → AsWas (after s nodes place reason) k r
  old_was k r h a =
      let at = old_place k h in
      let same = old_node k h a.number in
      record {
        number = subst (λ (m : ℕ). m < length (after s nodes place reason).nodes) (sym at) longer;
        label = ap (λ (x : Node). x.label) same ∙ a.label;
        value = ap (λ (x : Node). x.value) same ∙ a.value;
        root = λ z. ap (λ (x : Node). x.parent) same ∙ a.root z;
        earlier = a.earlier;
        parent =
            λ z.
            ap (λ (x : Node). x.parent) same ∙ (a.parent z ∙ sym (old_place r.parent (let e = a.earlier z in omega arith)));
        above = λ z. subst (λ (m : ℕ). m < place_of (after s nodes place reason) k) (sym (ap (λ (x : Node). x.parent) same)) (subst (λ (m : ℕ). (kept_as s k).parent < m) (sym at) (a.above z));
      }
    where
      longer : place_of s k < length (after s nodes place reason).nodes
      longer = unfold after in (let e = length-append s.nodes nodes in let i = a.number in omega arith)

  old_reason : (k : ℕ) → k < length s.reasons → get_or (after s nodes place reason).reasons k 0 ≡ get_or s.reasons k 0
  unfolding after
  old_reason k i = get_or-append s.reasons (reason ∷ []) 0 k i

  old_told : (k : ℕ) → k < length s.places → k < length s.reasons → Told s k → Told (after s nodes place reason) k
  unfolding Told
  old_told k h i (inl t) = inl (subst (λ (m : ℕ). m < 65535) (sym (old_place k h)) t.0, old_reason k i ∙ t.1)
  old_told k h i (inr t) = inr (old_place k h ∙ t.0, subst (λ (m : ℕ). 0 < m) (sym (old_reason k i)) t.1)

  new_reason : length s.reasons ≡ length s.places → get_or (after s nodes place reason).reasons (length s.places) 0 ≡ reason
  unfolding after
  new_reason e = ap (λ (m : ℕ). get_or (s.reasons ++ (reason ∷ [])) m 0) (sym e) ∙ get_or-append_seam s.reasons reason [] 0

-- a record that is kept, at its own number
module _ (labels : List Label) (s : Salvaged) (x : Node) (few : length s.nodes < 65535)
    (good : cond (is_empty s.places) (good_root x) (good_below labels s.nodes (moved s.places x)) ≡ true) where
  next : Salvaged
  next = after s (moved s.places x ∷ []) (length s.nodes) 0

  k : ℕ
  k = length s.places

  here : place_of next k ≡ length s.nodes
  unfolding next k
  here = new_place s (moved s.places x ∷ []) (length s.nodes) 0

  node : kept_as next k ≡ moved s.places x
  unfolding kept_as
  node =
      ap (λ (j : ℕ). get_or next.nodes j no_node) here
      ∙ (unfold next after in get_or-append_seam s.nodes (moved s.places x) [] no_node)

  -- its parent is one of those kept
  up : 0 < k → place_of s x.parent < length s.nodes
  unfolding good_below place_of moved k
  up z =
      let g : good_below labels s.nodes (moved s.places x) ≡ true =
      subst (λ (b : Bool). cond b (good_root x) (good_below labels s.nodes (moved s.places x)) ≡ true) (some_empty s.places z) good in
      ltb-true _ _ (both _ _ (both _ _ (both _ _ g).0).0).0

  inside : 0 < k → x.parent < k
  unfolding k
  inside z = go (dec_lt x.parent (length s.places))
    where
      go : Dec (x.parent < length s.places) → x.parent < length s.places
      go (yes h) = h
      go (no h) =
          let e : place_of s x.parent ≡ 65535 = unfold place_of in beyond s.places x.parent no_number (omega arith) in
          let u = up z in
          absurd (omega arith)

  is_root : k ≡ 0 → (moved s.places x).parent ≡ x.parent
  unfolding moved k
  is_root z =
      let g : good_root x ≡ true = subst (λ (b : Bool). cond b (good_root x) (good_below labels s.nodes (moved s.places x)) ≡ true) (none_empty s.places z) good in
      beyond s.places x.parent no_number (omega arith) ∙ sym (root_says x g).0

  new_was : AsWas next k x
  unfolding k
  new_was =
      record {
        number = subst (λ (m : ℕ). m < length next.nodes) (sym here) (unfold next after in (let e = length_more s.nodes (moved s.places x) in omega arith));
        label = ap (λ (y : Node). y.label) node ∙ (unfold moved in refl);
        value = ap (λ (y : Node). y.value) node ∙ (unfold moved in refl);
        root = λ z. ap (λ (y : Node). y.parent) node ∙ is_root z;
        earlier = inside;
        parent = λ z. ap (λ (y : Node). y.parent) node ∙ (is_place ∙ sym (unfold next in old_place s (moved s.places x ∷ []) (length s.nodes) 0 x.parent (inside z)));
        above =
            λ z.
            subst (λ (m : ℕ). (kept_as next k).parent < m) (sym here)
            (subst (λ (m : ℕ). m < length s.nodes) (sym (ap (λ (y : Node). y.parent) node ∙ is_place)) (up z));
      }
    where
      is_place : (moved s.places x).parent ≡ place_of s x.parent
      is_place = unfold moved place_of in refl

-- one record more
module _ (second : Bool) (labels : List Label) (bytes : List ℕ) where
  -- at each number up to the last
  each_to : {Q : ℕ → Type 0} (n : ℕ) → ((k : ℕ) → k < n → Q k) → Q n → (k : ℕ) → k < suc n → Q k
  each_to {Q} n old new k h =
      ⊎_elim (λ (e : k ≡ n). subst Q (sym e) new) (λ (i : k < n). old k i) (eq-or-lt_of_le (let z : k ≤ n = omega arith in z))

  was_next : (n : ℕ) (s : Salvaged) (l : List ℕ) → WasAt second labels bytes n s l → (nodes : List Node) (place reason : ℕ)
      → SalvageAt second (node_kind_in bytes) labels bytes (suc n) (after s nodes place reason) (drop (record_length l) l)
      → (place_of (after s nodes place reason) n < 65535 → AsWas (after s nodes place reason) n (node_of bytes n)) → Told (after s nodes place reason) n
      → ((k : ℕ) → k < n → place_of s k < 65535 → place_of (after s nodes place reason) n < 65535 → place_of s k < place_of (after s nodes place reason) n)
      → ((i : ℕ) → i < length (after s nodes place reason).nodes → (place_of (after s nodes place reason) n ≡ i) ⊎ (i < length s.nodes))
      → WasAt second labels bytes (suc n) (after s nodes place reason) (drop (record_length l) l)
  was_next n s l g nodes place reason base was told order new =
      record {
        base = base;
        here = ap (λ (r : List ℕ). drop (record_length r) r) g.here ∙ from_more n bytes;
        placed = unfold after in (length_more s.places place ∙ ap suc g.placed);
        reasoned = unfold after in (length_more s.reasons reason ∙ ap suc g.reasoned);
        was = each_to {Q = λ k. place_of (after s nodes place reason) k < 65535 → AsWas (after s nodes place reason) k (node_of bytes k)} n old was;
        told = each_to {Q = λ k. Told (after s nodes place reason) k} n (λ k h. old_told s nodes place reason k (in_places k h) (in_reasons k h) (g.told k h)) told;
        ordered =
            λ k m below h.
            ⊎_elim
            (λ (e : m ≡ n).
            subst (λ (j : ℕ). place_of (after s nodes place reason) k < 65535 → place_of (after s nodes place reason) j < 65535 → place_of (after s nodes place reason) k < place_of (after s nodes place reason) j) (sym e) (last k (omega arith)))
            (λ (i : m < n). earlier k m below i)
            (eq-or-lt_of_le (let z : m ≤ n = omega arith in z));
        from =
            λ i h.
            ⊎_elim (λ (e : place_of (after s nodes place reason) n ≡ i). (n, omega arith, e))
            (λ (j : i < length s.nodes). let f = g.from i j in (f.0, (let z = f.1 in omega arith), old_place s nodes place reason f.0 (in_places f.0 f.1) ∙ f.2))
            (new i h);
      }
    where
      in_places : (k : ℕ) → k < n → k < length s.places
      in_places k h = subst (λ (m : ℕ). k < m) (sym g.placed) h

      in_reasons : (k : ℕ) → k < n → k < length s.reasons
      in_reasons k h = subst (λ (m : ℕ). k < m) (sym g.reasoned) h

      at : (k : ℕ) → k < n → place_of (after s nodes place reason) k ≡ place_of s k
      at k h = old_place s nodes place reason k (in_places k h)

      last : (k : ℕ) → k < n → place_of (after s nodes place reason) k < 65535 → place_of (after s nodes place reason) n < 65535
          → place_of (after s nodes place reason) k < place_of (after s nodes place reason) n
      last k h a b = let e = at k h in let o = order k h (subst (λ (j : ℕ). j < 65535) e a) b in subst (λ (j : ℕ). j < place_of (after s nodes place reason) n) (sym e) o

      earlier : (k m : ℕ) → k < m → m < n → place_of (after s nodes place reason) k < 65535 → place_of (after s nodes place reason) m < 65535
          → place_of (after s nodes place reason) k < place_of (after s nodes place reason) m
      earlier k m below h a b =
          let e = at k (omega arith) in
          let f = at m h in
          let o = g.ordered k m below h (subst (λ (j : ℕ). j < 65535) e a) (subst (λ (j : ℕ). j < 65535) f b) in
          omega arith

      old : (k : ℕ) → k < n → place_of (after s nodes place reason) k < 65535 → AsWas (after s nodes place reason) k (node_of bytes k)
      old k h i =
          old_was s nodes place reason k (node_of bytes k) (in_places k h)
          (g.was k h (subst (λ (m : ℕ). m < 65535) (old_place s nodes place reason k (in_places k h)) i))

  kept_is : (s : Salvaged) (x : Node) → keep_or_drop 0 s x ≡ after s (x ∷ []) (length s.nodes) 0
  unfolding keep_or_drop after
  kept_is s x = refl

  dropped_is : (r : ℕ) (s : Salvaged) (x : Node) → keep_or_drop (suc r) s x ≡ after s [] 65535 (suc r)
  unfolding keep_or_drop after
  dropped_is r s x = ap (λ (ns : List Node). record { nodes = ns; places = s.places ++ (no_number ∷ []); reasons = s.reasons ++ (suc r ∷ []) }) (sym (append-nil s.nodes))

  last_node : (s : Salvaged) (m : Node) (i : ℕ) → i < length (after s (m ∷ []) (length s.nodes) 0).nodes → i ≤ length s.nodes
  unfolding after
  last_node s m i h = let e = length_more s.nodes m in omega arith

  same_nodes : (s : Salvaged) (r i : ℕ) → i < length (after s [] 65535 (suc r)).nodes → i < length s.nodes
  unfolding after
  same_nodes s r i h = subst (λ (l : List Node). i < length l) (append-nil s.nodes) h

  was_kept : (n : ℕ) (s : Salvaged) (l : List ℕ) → WasAt second labels bytes n s l → 0 < length l → first_of (salvage_tests s l) ≡ 0
      → WasAt second labels bytes (suc n) (salvage_next second (node_kind_in bytes) labels s l) (drop (record_length l) l)
  unfolding salvage_next
  was_kept n s l g h e = go (first_of (drop_tests second (node_kind_in bytes) labels s l)) refl (salvage_kept second (kind_in bytes) labels bytes n s l g.base h e)
    where
      read : read_node (record_body l) ≡ node_of bytes n
      read = unfold node_of in ap (λ (r : List ℕ). read_node (record_body r)) g.here

      x : Node
      x = read_node (record_body l)

      few : length s.nodes < 65535
      few = let a = g.base.at.few in omega arith

      to : (t : Salvaged) → t ≡ salvage_next second (node_kind_in bytes) labels s l → SalvageAt second (node_kind_in bytes) labels bytes (suc n) (salvage_next second (node_kind_in bytes) labels s l) (drop (record_length l) l)
          → SalvageAt second (node_kind_in bytes) labels bytes (suc n) t (drop (record_length l) l)
      to t q b = subst (λ (y : Salvaged). SalvageAt second (node_kind_in bytes) labels bytes (suc n) y (drop (record_length l) l)) (sym q) b

      go : (r : ℕ) → first_of (drop_tests second (node_kind_in bytes) labels s l) ≡ r
          → SalvageAt second (node_kind_in bytes) labels bytes (suc n) (salvage_next second (node_kind_in bytes) labels s l) (drop (record_length l) l)
          → WasAt second labels bytes (suc n) (keep_or_drop (first_of (drop_tests second (node_kind_in bytes) labels s l)) s (moved s.places (read_node (record_body l)))) (drop (record_length l) l)
      go zero q b =
          let m = moved s.places x in
          let is : after s (m ∷ []) (length s.nodes) 0 ≡ salvage_next second (node_kind_in bytes) labels s l =
          sym (kept_is s m) ∙ ap (λ (r : ℕ). keep_or_drop r s m) (sym q) in
          let w = new_was labels s x few (passes second (node_kind_in bytes) labels s l q).good in
          subst (λ (y : Salvaged). WasAt second labels bytes (suc n) y (drop (record_length l) l)) is
          (was_next n s l g (m ∷ []) (length s.nodes) 0 (to _ is b)
          (λ i. subst (AsWas (after s (m ∷ []) (length s.nodes) 0) n) read (subst (λ (k : ℕ). AsWas (after s (m ∷ []) (length s.nodes) 0) k x) g.placed (unfold next k in w)))
          (kept_told m) (order m) (new m))
        where
          put : (m : Node) → place_of (after s (m ∷ []) (length s.nodes) 0) n ≡ length s.nodes
          put m = subst (λ (k : ℕ). place_of (after s (m ∷ []) (length s.nodes) 0) k ≡ length s.nodes) g.placed (new_place s (m ∷ []) (length s.nodes) 0)

          order : (m : Node) (k : ℕ) → k < n → place_of s k < 65535 → place_of (after s (m ∷ []) (length s.nodes) 0) n < 65535
              → place_of s k < place_of (after s (m ∷ []) (length s.nodes) 0) n
          order m k h a b = subst (λ (j : ℕ). place_of s k < j) (sym (put m)) (g.was k h a).number

          new : (m : Node) (i : ℕ) → i < length (after s (m ∷ []) (length s.nodes) 0).nodes
              → (place_of (after s (m ∷ []) (length s.nodes) 0) n ≡ i) ⊎ (i < length s.nodes)
          new m i h =
              ⊎_elim (λ (e : i ≡ length s.nodes). inl (put m ∙ sym e)) (λ (j : i < length s.nodes). inr j)
              (eq-or-lt_of_le (last_node s m i h))

          kept_told : (m : Node) → Told (after s (m ∷ []) (length s.nodes) 0) n
          kept_told m =
              unfold Told in
              inl (
                subst (λ (k : ℕ). place_of (after s (m ∷ []) (length s.nodes) 0) k < 65535) g.placed
                    (subst (λ (k : ℕ). k < 65535) (sym (new_place s (m ∷ []) (length s.nodes) 0)) few),
                subst (λ (k : ℕ). get_or (after s (m ∷ []) (length s.nodes) 0).reasons k 0 ≡ 0) g.placed
                    (new_reason s (m ∷ []) (length s.nodes) 0 (g.reasoned ∙ sym g.placed)),
              )
      go (suc r) q b =
          let m = moved s.places x in
          let is : after s [] 65535 (suc r) ≡ salvage_next second (node_kind_in bytes) labels s l =
          sym (dropped_is r s m) ∙ ap (λ (r : ℕ). keep_or_drop r s m) (sym q) in
          subst (λ (y : Salvaged). WasAt second labels bytes (suc n) y (drop (record_length l) l)) is
          (was_next n s l g [] 65535 (suc r) (to _ is b) (λ i. absurd (let e = gone in omega arith)) drop_told
          (λ k h a c. absurd (let e = gone in omega arith)) (λ i h. inr (same_nodes s r i h)))
        where
          gone : place_of (after s [] 65535 (suc r)) n ≡ 65535
          gone = subst (λ (k : ℕ). place_of (after s [] 65535 (suc r)) k ≡ 65535) g.placed (new_place s [] 65535 (suc r))

          drop_told : Told (after s [] 65535 (suc r)) n
          drop_told =
              unfold Told in
              inr (
                gone,
                subst (λ (k : ℕ). 0 < k)
                    (sym (subst (λ (k : ℕ). get_or (after s [] 65535 (suc r)).reasons k 0 ≡ suc r) g.placed (new_reason s [] 65535 (suc r) (g.reasoned ∙ sym g.placed))))
                    (omega arith),
              )

  pub was_stop : Bytes bytes → length bytes ≤ stride (node_kind_in bytes) * 4096 → Stopped salvage_tests (WasAt second labels bytes) (salvage_walked second labels bytes)
  unfolding salvage_walked
  was_stop small size =
      walk_keeps salvage_tests (salvage_next second (node_kind_in bytes) labels) (WasAt second labels bytes)
      only_long was_kept 0 nothing_yet bytes
      (record {
        base = salvage_none second (node_kind_in bytes) labels bytes small size;
        here = unfold records_from in refl;
        placed = refl;
        reasoned = refl;
        was = λ k h. absurd (omega arith);
        told = λ k h. absurd (omega arith);
        ordered = λ k m below h. absurd (omega arith);
        from = λ i h. absurd (omega arith);
      })

  module _ (small : Bytes bytes) (e : (salvage_refusal second labels bytes).number ≡ 0) where
    out : Salvaged
    out = (salvage_walked second labels bytes).state

    stop : WasAt second labels bytes (salvage_walked second labels bytes).at out (was_stop small (salvage_size second labels bytes e)).rest
    unfolding out
    stop = (was_stop small (salvage_size second labels bytes e)).held

    -- "Every kept node has the label and value it had", and its parent is its own
    pub kept_as_was : (k : ℕ) → k < (salvage_walked second labels bytes).at → place_of (salvage_walked second labels bytes).state k < 65535 → AsWas (salvage_walked second labels bytes).state k (node_of bytes k)
    unfolding out
    kept_as_was k h i = stop.was k h i

    -- a record is kept and has no reason, or is dropped and has one
    pub kept_or_told : (k : ℕ) → k < (salvage_walked second labels bytes).at → Told (salvage_walked second labels bytes).state k
    unfolding out
    kept_or_told k h = stop.told k h

    -- "renumbers the rest in order": the new numbers ascend with the old ones, and each node comes from a record
    pub renumbered : (k m : ℕ) → k < m → m < (salvage_walked second labels bytes).at → place_of (salvage_walked second labels bytes).state k < 65535
        → place_of (salvage_walked second labels bytes).state m < 65535 → place_of (salvage_walked second labels bytes).state k < place_of (salvage_walked second labels bytes).state m
    unfolding out
    renumbered k m below h a b = stop.ordered k m below h a b

    pub comes_from : (i : ℕ) → i < length (salvage_walked second labels bytes).state.nodes
        → (k : ℕ) × (k < (salvage_walked second labels bytes).at) × (place_of (salvage_walked second labels bytes).state k ≡ i)
    unfolding out
    comes_from i h = stop.from i h

    -- "with all its descendants": a record whose parent is not kept is dropped
    pub dropped_below : (k : ℕ) → 0 < k → k < (salvage_walked second labels bytes).at → place_of (salvage_walked second labels bytes).state (node_of bytes k).parent ≡ 65535
        → place_of (salvage_walked second labels bytes).state k ≡ 65535
    unfolding Told
    dropped_below k z h gone = go (kept_or_told k h)
      where
        go : Told (salvage_walked second labels bytes).state k → place_of (salvage_walked second labels bytes).state k ≡ 65535
        go (inr t) = t.0
        go (inl t) =
            let a = kept_as_was k h t.0 in
            let up = a.above z in
            let same = a.parent z in
            let low = t.0 in
            absurd (omega arith)

-- "one whose parent is not kept has reason 8 unless 2 holds"
pub dropped_reason : (second : Bool) (kind : ℕ) (labels : List Label) (s : Salvaged) (l : List ℕ) → 0 < length s.places → length s.nodes ≤ 65535 → record_kind l ≡ kind
    → place_of s (read_node (record_body l)).parent ≡ 65535 → first_of (drop_tests second kind labels s l) ≡ 8
unfolding drop_tests first_of good_below moved place_of
dropped_reason second kind labels s l some few is_kind gone =
    rw (eq-eqb (record_kind l) kind is_kind, some_empty s.places some, gone, le-ltb 65535 (length s.nodes) few)
