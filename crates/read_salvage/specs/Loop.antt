-- A damaged file passed from the front: the loop's buffers beside the walk of `meaning`, for any labels that the class table says.
use Prim.Native.Nat.{ℕ, zero, suc, ◌+◌, ◌*◌, ◌-◌, ◌≤◌, ◌<◌}
use Rattle.std.specs.Prelude.{◌≡◌, Bool, false, not, eqb, set}
use Rattle.std.proofs.Math.Path.{refl, sym, subst, ap, ap₂}
use Rattle.std.proofs.Common.{◌∙◌, add-one, ne_eqb, length-set, length-append, take_at, drop_at, take_all, take-add, length-take-le}
use Rattle.std.proofs.Math.Bool.{true, cond}
use mathlib.Core.List.{List, [], ◌∷◌, ◌++◌, map, flatten}
use native.Mathlib.Omega.{arith}
use Rattle.std.proofs.Math.Decide.{ℕ_discrete}
use Rattle.std.proofs.lemmas.Bool.{not-false}
use borrow.Author.Rules.{part_to_end}
use Rattle.std.proofs.Math.ListN.{length, get_or, take, drop, length-drop}
use Rattle.std.proofs.Math.Seq.{take-suc-set}
use Rattle.meaning.specs.Lists.{is_empty}
use Rattle.meaning.specs.Paths.{Label}
use Rattle.meaning.specs.Trees.{Node}
use Rattle.meaning.specs.Records.{word, word_bytes, value_bytes, record_length, record_kind, record_body, record_bytes, read_node, node_bytes}
use Rattle.meaning.specs.Refusals.{walk, first_of, whole, tree_tests, good_root, good_below}
use Rattle.meaning.specs.Salvage.{Salvaged, nothing_yet, moved, drop_tests, keep_or_drop, salvage_next, salvage_tests}
use Rattle.read_record.specs.Classes.{Tabled}
use Rattle.theory_records.specs.Tests.{first_holds, never, not_fails}
use Rattle.theory_records.specs.Bytes.{Bytes, number_length}
use Rattle.theory_records.specs.Heads.{Whole, whole_says}
use Rattle.theory_records.specs.Encodings.{IsNodeKind, node_written}
use Rattle.theory_records.specs.Profiles.{flat_more, length_more}
use Rattle.theory_records.specs.TreeFiles.{stride, node_length, body_at, TreeAt}
use Rattle.theory_records.specs.Walks.{walk_step}
use Rattle.theory_records.specs.WrittenInputs.{nodes_size}
use Rattle.theory_salvage.specs.Slots.{slot, node_tests}
use Rattle.theory_salvage.specs.Salvages.{SalvageAt, salvage_kept, moved_fits, room_more, moved_tests, passes, more_some, whole_only, only_long}
use Rattle.read_tree.specs.Nodes.{node_tests_by, count_fits}
use Rattle.read_tree.specs.Walks.{tests_agree}
use Rattle.write_bytes.specs.Wrote.{written}
use Rattle.read_salvage.specs.Moved.{moved_bytes, RecordJudged, stride_nine}

-- a dropped record has no number and counts for none
unfoldable pub number_by : ℕ → ℕ → ℕ
number_by zero nodes = nodes
number_by (suc r) nodes = 65535

unfoldable pub count_by : ℕ → ℕ → ℕ
count_by zero nodes = suc nodes
count_by (suc r) nodes = nodes

-- both, return by return
pub number_kept : (r nodes : ℕ) → r ≡ 0 → nodes ≡ number_by r nodes
unfolding number_by
number_kept r nodes e = rw e

pub number_none : (r nodes : ℕ) → (r ≡ 0 → ⊥) → 65535 ≡ number_by r nodes
unfolding number_by
number_none zero nodes n = absurd (n refl)
number_none (suc r) nodes n = refl

pub count_kept : (r nodes : ℕ) → r ≡ 0 → nodes + 1 ≡ count_by r nodes
unfolding count_by
count_kept r nodes e = rw e (add-one nodes)

pub count_none : (r nodes : ℕ) → (r ≡ 0 → ⊥) → nodes ≡ count_by r nodes
unfolding count_by
count_none zero nodes n = absurd (n refl)
count_none (suc r) nodes n = refl

-- record 0 is a valid root
pub record Rooted (second : Bool) (kind : ℕ) (labels : List Label) (s : Salvaged) (rest : List ℕ) : Type 0 where
  pub is_whole : whole rest ≡ true
  pub kept : first_of (drop_tests second kind labels s rest) ≡ 0

-- The loop stands after so many records: the walk goes on as the whole walk does, and the buffers hold what it has so far
pub record Going (second : Bool) (kind : ℕ) (labels : List Label) (tree out places reasons : List ℕ) (nodes records : ℕ) (rest : List ℕ) : Type 0 where
  pub state : Salvaged
  pub walks : walk salvage_tests (salvage_next second kind labels) 0 records state rest ≡ walk salvage_tests (salvage_next second kind labels) 0 0 nothing_yet tree
  pub here : SalvageAt second kind labels tree records state rest
  pub counted : nodes ≡ length state.nodes
  pub holds : take (stride kind * nodes) out ≡ flatten (map (node_bytes kind) state.nodes)
  pub placed : take records places ≡ state.places
  pub told : take records reasons ≡ state.reasons
  pub root : is_empty state.places ≡ true → Rooted second kind labels state rest
  pub some : is_empty state.places ≡ false → is_empty state.nodes ≡ false

pub record Loop (second : Bool) (kind : ℕ) (classes tree out places reasons : List ℕ) (nodes records : ℕ) (rest : List ℕ) : Type 0 where
  pub is_node : IsNodeKind kind
  pub size : length tree ≤ stride kind * 4096
  pub room : stride kind * nodes + length rest ≤ length tree
  pub four : 4 * records + length rest ≤ length tree
  pub outs : 45056 ≤ length out
  pub numbers : length places ≡ 11264
  pub listed : length reasons ≡ 11264
  pub going : (labels : List Label) → Tabled labels classes → Going second kind labels tree out places reasons nodes records rest

-- the node with its new parent, by the bytes
moved_bytes_lem : {kind : ℕ} → IsNodeKind kind → (l : List ℕ) → Bytes l → Whole l → record_kind l ≡ kind → (places : List ℕ) {p : ℕ} → p ≡ get_or places (word l 4) 65535
    → moved_bytes (take (record_length l) l) p ≡ node_bytes kind (moved places (read_node (record_body l)))
unfolding moved
moved_bytes_lem {kind} is_node l small w k places {p} e =
    ap₂ moved_bytes (ap (take (record_length l)) (sym whole_is) ∙ take_at (node_bytes kind x) (drop (record_length l) l) (record_length l) long) (e ∙ ap (λ (i : ℕ). get_or places i 65535) parent)
    ∙ again x.parent
  where
    x : Node
    x = read_node (record_body l)

    whole_is : node_bytes kind x ++ drop (record_length l) l ≡ l
    whole_is = node_written is_node l small w k

    long : length (node_bytes kind x) ≡ record_length l
    long =
        let a = ap length whole_is in
        let b = length-append (node_bytes kind x) (drop (record_length l) l) in
        let d = length-drop (record_length l) l in
        let within = w.within in
        omega arith

    parent : word l 4 ≡ x.parent
    parent =
        let z = node_length is_node l w k in
        let nine = stride_nine kind in
        unfold read_node word in
        (λ i. sym (body_at l 0 (omega arith)) i + 256 * sym (body_at l 1 (omega arith)) i)

    again : (q : ℕ) → moved_bytes (node_bytes kind x) (get_or places q 65535) ≡ node_bytes kind (record { parent = get_or places q 65535; label = x.label; value = x.value })
    again q = unfold moved_bytes node_bytes record_bytes word_bytes in refl

-- A record of the kind: its node stands behind those kept, and is judged there as by the labels
module _ {second : Bool} {kind : ℕ} (is_node : IsNodeKind kind) {labels : List Label} {classes : List ℕ} (tabled : Tabled labels classes) {tree out places reasons : List ℕ}
    {nodes records : ℕ} {rest : List ℕ} (g : Going second kind labels tree out places reasons nodes records rest) (w : Whole rest) (k : word rest 2 ≡ kind)
    (fits : stride kind * nodes ≤ length out) {end : List ℕ}
    (put : end ≡ written out (stride kind * nodes) (moved_bytes (take (word rest 0) rest) (get_or (take records places) (word rest 4) 65535))) where
  is_kind : record_kind rest ≡ kind
  unfolding record_kind
  is_kind = k

  x : Node
  x = moved g.state.places (read_node (record_body rest))

  tail : List ℕ
  tail = drop (stride kind * nodes + length (node_bytes kind x)) out

  stands : end ≡ take (stride kind * nodes) out ++ (node_bytes kind x ++ tail)
  unfolding written record_length x tail
  stands =
      put
      ∙ ap (λ (v : List ℕ). take (stride kind * nodes) out ++ (v ++ drop (stride kind * nodes + length v) out))
      (moved_bytes_lem is_node rest g.here.small w is_kind g.state.places (ap (λ (l : List ℕ). get_or l (word rest 4) 65535) g.placed))

  before_it : take (stride kind * nodes) end ≡ take (stride kind * nodes) out
  before_it = ap (take (stride kind * nodes)) stands ∙ take_at (take (stride kind * nodes) out) (node_bytes kind x ++ tail) (stride kind * nodes) (length-take-le (stride kind * nodes) out fits)

  from_it : drop (stride kind * nodes) end ≡ node_bytes kind x ++ tail
  from_it = ap (drop (stride kind * nodes)) stands ∙ drop_at (take (stride kind * nodes) out) (node_bytes kind x ++ tail) (stride kind * nodes) (length-take-le (stride kind * nodes) out fits)

  long : length end ≡ stride kind * nodes + length (node_bytes kind x ++ tail)
  long = ap length stands ∙ (length-append (take (stride kind * nodes) out) (node_bytes kind x ++ tail) ∙ ap (λ (m : ℕ). m + length (node_bytes kind x ++ tail)) (length-take-le (stride kind * nodes) out fits))

  at_count : stride kind * length g.state.nodes ≡ stride kind * nodes
  at_count = ap (λ (m : ℕ). stride kind * m) (sym g.counted)

  tree_here : TreeAt second kind labels end nodes g.state.nodes (drop (stride kind * nodes) end)
  tree_here =
      subst (λ (m : ℕ). TreeAt second kind labels end nodes g.state.nodes (drop m end)) at_count
      (subst (λ (m : ℕ). TreeAt second kind labels end m g.state.nodes (drop (stride kind * length g.state.nodes) end)) (sym g.counted)
      (slot g.here.at end
      (take_all (stride kind * length g.state.nodes) (flatten (map (node_bytes kind) g.state.nodes)) (let e = nodes_size labels kind g.state.nodes in omega arith)
      ∙ (sym g.holds ∙ (sym before_it ∙ ap (λ (m : ℕ). take m end) (sym at_count))))
      (let e = long in let a = at_count in omega arith)))

  -- judged as among the nodes kept
  same_tests : Bytes end → {r : ℕ} → r ≡ first_of (node_tests_by second kind classes end nodes (drop (stride kind * nodes) end))
      → first_of (drop_tests second kind labels g.state rest) ≡ r
  same_tests small given =
      sym
      (given
      ∙ (tests_agree tabled small tree_here
      ∙ (ap (λ (l : List ℕ). first_of (tree_tests second kind labels g.state.nodes l)) from_it
      ∙ (node_tests is_node x (unfold x in moved_fits second is_node labels tree records g.state rest g.here w is_kind) tail second labels g.state.nodes
      (room_more second is_node labels tree records g.state rest g.here w is_kind)
      ∙ (unfold x in sym (moved_tests second kind labels g.state rest is_kind rooted g.some))))))
    where
      rooted : is_empty g.state.places ≡ true → (g.state.nodes ≡ []) × (good_root (read_node (record_body rest)) ≡ true)
      rooted z = (
        g.here.rooted z,
        subst (λ (b : Bool). cond b (good_root (read_node (record_body rest))) (good_below labels g.state.nodes (moved g.state.places (read_node (record_body rest)))) ≡ true) z
            (passes second kind labels g.state rest (g.root z).kept).good,
      )

  -- one node more
  holds_more : take (stride kind * suc nodes) end ≡ flatten (map (node_bytes kind) (g.state.nodes ++ (x ∷ [])))
  holds_more =
      ap (λ (m : ℕ). take m end) (let q : stride kind * suc nodes ≡ stride kind * nodes + stride kind = omega arith in q)
      ∙ (take-add (stride kind * nodes) (stride kind) end
      ∙ (ap₂ (λ (a b : List ℕ). a ++ b) (before_it ∙ g.holds) (ap (take (stride kind)) from_it ∙ take_at (node_bytes kind x) tail (stride kind) size)
      ∙ sym (flat_more (node_bytes kind) g.state.nodes x)))
    where
      size : length (node_bytes kind x) ≡ stride kind
      size = unfold node_bytes record_bytes word_bytes stride in (let e = number_length (value_bytes kind) x.value in omega arith)

-- The nodes of either kind fit the buffer
limit_most : (kind : ℕ) → stride kind * 4096 ≤ 45056
unfolding stride value_bytes
limit_most kind = go (eqb kind 5)
  where
    go : (b : Bool) → (7 + cond b 4 2) * 4096 ≤ 45056
    go true = omega arith
    go false = omega arith

-- What one record more leaves
record Stepped (kind : ℕ) (st : Salvaged) (end places reasons : List ℕ) (nodes records : ℕ) : Type 0 where
  counted : nodes ≡ length st.nodes
  holds : take (stride kind * nodes) end ≡ flatten (map (node_bytes kind) st.nodes)
  placed : take records places ≡ st.places
  told : take records reasons ≡ st.reasons
  full : is_empty st.places ≡ false
  some : is_empty st.nodes ≡ false

module _ {second : Bool} {kind : ℕ} {classes tree out places reasons : List ℕ} {nodes records : ℕ} {rest : List ℕ}
    (loop : Loop second kind classes tree out places reasons nodes records rest) where
  -- there is room for what is left
  pub loop_fits : stride kind * nodes + length rest ≤ length out
  loop_fits =
      let a = loop.room in
      let b = loop.size in
      let d = limit_most kind in
      let e = loop.outs in
      omega arith

  pub loop_few : 4 ≤ length rest → records < 11264
  loop_few h =
      let a = loop.four in
      let b = loop.size in
      let d = limit_most kind in
      omega arith

  pub loop_used : {w : ℕ} → w ≡ 7 + value_bytes kind → w * nodes ≤ 45056
  unfolding stride
  loop_used e =
      let a = loop.room in
      let b = loop.size in
      let d = limit_most kind in
      subst (λ (m : ℕ). m * nodes ≤ 45056) (sym e) (omega arith)

  pub loop_most : (records ≤ 11264) × (nodes ≤ 45056)
  loop_most =
      let a = loop.four in
      let b = loop.size in
      let d = limit_most kind in
      let e = loop.room in
      let n = count_fits (stride kind) nodes (length tree) (stride_nine kind) (omega arith) in
      (omega arith, omega arith)

  module _ {end : List ℕ} (small : Bytes end) (same_size : length end ≡ length out) {b : Bool} (is_whole : b ≡ whole rest) (t : not b ≡ false)
      {r : ℕ} (judged : RecordJudged second kind classes places nodes records out end rest r) where
    is_true : whole rest ≡ true
    is_true = sym is_whole ∙ not-false _ t

    w : Whole rest
    w = whole_says rest is_true

    fits : stride kind * nodes ≤ length out
    fits = let a = loop_fits in omega arith

    tests_given : (labels : List Label) (tabled : Tabled labels classes) → first_of (drop_tests second kind labels (loop.going labels tabled).state rest) ≡ r
    tests_given labels tabled = go (ℕ_discrete (word rest 2) kind)
      where
        go : Dec (word rest 2 ≡ kind) → first_of (drop_tests second kind labels (loop.going labels tabled).state rest) ≡ r
        go (yes k) = same_tests loop.is_node tabled (loop.going labels tabled) w k fits (judged.same k).1 small (judged.same k).0
        go (no n) = unfold drop_tests record_kind in (first_holds 2 _ (not_fails (ne_eqb (word rest 2) kind n)) ∙ sym (judged.other n).0)

    -- a kept record is of the kind
    kept_kind : r ≡ 0 → word rest 2 ≡ kind
    kept_kind e = go (ℕ_discrete (word rest 2) kind)
      where
        go : Dec (word rest 2 ≡ kind) → word rest 2 ≡ kind
        go (yes k) = k
        go (no n) = absurd (let z = (judged.other n).0 in omega arith)

    stepped : (labels : List Label) (tabled : Tabled labels classes) (m : ℕ) → r ≡ m
        → Stepped kind (keep_or_drop m (loop.going labels tabled).state (moved (loop.going labels tabled).state.places (read_node (record_body rest)))) end
        (set places records (number_by m nodes)) (set reasons records m) (count_by m nodes) (suc records)
    unfolding keep_or_drop number_by count_by
    stepped labels tabled zero e =
        let g = loop.going labels tabled in
        let four = w.head in
        record {
          counted = ap suc g.counted ∙ sym (length_more g.state.nodes _);
          holds = unfold x in holds_more loop.is_node tabled g w (kept_kind e) fits (judged.same (kept_kind e)).1;
          placed =
              take-suc-set places records nodes (let a = loop_few four in let z = loop.numbers in omega arith)
              ∙ ap₂ (λ (l : List ℕ) (n : ℕ). l ++ (n ∷ [])) g.placed g.counted;
          told = take-suc-set reasons records 0 (let a = loop_few four in let z = loop.listed in omega arith) ∙ ap (λ (l : List ℕ). l ++ (0 ∷ [])) g.told;
          full = more_some g.state.places _;
          some = more_some g.state.nodes _;
        }
    stepped labels tabled (suc m) e =
        let g = loop.going labels tabled in
        let four = w.head in
        record {
          counted = g.counted;
          holds = stays (ℕ_discrete (word rest 2) kind) ∙ g.holds;
          placed =
              take-suc-set places records 65535 (let a = loop_few four in let z = loop.numbers in omega arith)
              ∙ ap (λ (l : List ℕ). l ++ (65535 ∷ [])) g.placed;
          told = take-suc-set reasons records (suc m) (let a = loop_few four in let z = loop.listed in omega arith) ∙ ap (λ (l : List ℕ). l ++ (suc m ∷ [])) g.told;
          full = more_some g.state.places _;
          some = still (is_empty g.state.places) refl;
        }
      where
        stays : Dec (word rest 2 ≡ kind) → take (stride kind * nodes) end ≡ take (stride kind * nodes) out
        stays (yes k) = before_it loop.is_node tabled (loop.going labels tabled) w k fits (judged.same k).1
        stays (no n) = ap (take (stride kind * nodes)) (judged.other n).1

        still : (c : Bool) → is_empty (loop.going labels tabled).state.places ≡ c → is_empty (loop.going labels tabled).state.nodes ≡ false
        still true z =
            let f = ((loop.going labels tabled).root z).kept in
            let q = tests_given labels tabled in
            absurd (omega arith)
        still false z = (loop.going labels tabled).some z

    onward : (labels : List Label) → Tabled labels classes
        → Going second kind labels tree end (set places records (number_by r nodes)) (set reasons records r) (count_by r nodes) (suc records) (drop (record_length rest) rest)
    onward labels tabled =
        let g = loop.going labels tabled in
        let st = stepped labels tabled r refl in
        let one = whole_only g.state rest is_true in
        let some : 0 < length rest = let h = w.head in omega arith in
        let next : salvage_next second kind labels g.state rest ≡ keep_or_drop r g.state (moved g.state.places (read_node (record_body rest))) =
        unfold salvage_next in ap (λ (m : ℕ). keep_or_drop m g.state (moved g.state.places (read_node (record_body rest)))) (tests_given labels tabled) in
        record {
          state = keep_or_drop r g.state (moved g.state.places (read_node (record_body rest)));
          walks =
              ap (λ (s : Salvaged). walk salvage_tests (salvage_next second kind labels) 0 (suc records) s (drop (record_length rest) rest)) (sym next)
              ∙ (sym (walk_step salvage_tests (salvage_next second kind labels) records g.state rest some one (only_long g.state rest some one)) ∙ g.walks);
          here =
              subst (λ (s : Salvaged). SalvageAt second kind labels tree (suc records) s (drop (record_length rest) rest)) next
              (salvage_kept second loop.is_node labels tree records g.state rest g.here some one);
          counted = st.counted;
          holds = st.holds;
          placed = st.placed;
          told = st.told;
          root = λ z. absurd (never _ z st.full);
          some = λ z. st.some;
        }

    room_next : (m : ℕ) → r ≡ m → stride kind * count_by m nodes + length (drop (record_length rest) rest) ≤ length tree
    unfolding count_by
    room_next zero e =
        let long = node_length loop.is_node rest w (unfold record_kind in kept_kind e) in
        let within = w.within in
        let d = length-drop (record_length rest) rest in
        let a = loop.room in
        let q : stride kind * suc nodes ≡ stride kind * nodes + stride kind = omega arith in
        omega arith
    room_next (suc m) e = let d = length-drop (record_length rest) rest in let a = loop.room in omega arith

    loop_next : {e : ℕ} → e ≡ word rest 0
        → Loop second kind classes tree end (set places records (number_by r nodes)) (set reasons records r) (count_by r nodes) (records + 1) (take (length rest - e) (drop e rest))
    loop_next {e} q =
        rw (part_to_end rest e, q ∙ is_long, add-one)
        (record {
          is_node = loop.is_node;
          size = loop.size;
          room = room_next r refl;
          four = let a = loop.four in let d = length-drop (record_length rest) rest in let l = w.long in let h = w.within in omega arith;
          outs = let a = loop.outs in omega arith;
          numbers = length-set places records (number_by r nodes) ∙ loop.numbers;
          listed = length-set reasons records r ∙ loop.listed;
          going = onward;
        })
      where
        is_long : word rest 0 ≡ record_length rest
        is_long = unfold record_length in refl

    -- the same, by the numbers that the code has
    pub one_more : {number count : ℕ} → number ≡ number_by r nodes → count ≡ count_by r nodes → {e : ℕ} → e ≡ word rest 0
        → Loop second kind classes tree end (set places records number) (set reasons records r) count (records + 1) (take (length rest - e) (drop e rest))
    one_more {number} {count} a b {e} q =
        subst (λ (m : ℕ). Loop second kind classes tree end (set places records m) (set reasons records r) count (records + 1) (take (length rest - e) (drop e rest))) (sym a)
        (subst (λ (m : ℕ). Loop second kind classes tree end (set places records (number_by r nodes)) (set reasons records r) m (records + 1) (take (length rest - e) (drop e rest))) (sym b)
        (loop_next q))
