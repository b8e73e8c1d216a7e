-- One record beside the nodes kept: its node with the new parent put behind them, and judged there.
use Rattle.std.specs.Prelude.{ℕ, zero, suc, ◌+◌, ◌*◌, ◌-◌, ◌/◌, ◌%◌, ◌<◌, ◌≤◌, ◌≡◌, refl, Bool, true, false, cond, List, [], ◌∷◌, ◌++◌, leb, eqb, length, get_or, take, drop, set}
use Rattle.std.proofs.Common.{sym, ◌∙◌, ap, ap₂, subst, append_assoc, arith, leb-true, length-take, get_or-take, length-take-le}
use borrow.Author.Rules.{part_to_end}
use Rattle.std.proofs.Math.ListN.{get_or-eq_default}
use Rattle.meaning.specs.Lists.{every}
use Rattle.meaning.specs.Records.{word, word_bytes, value_bytes, record_length, record_kind}
use Rattle.meaning.specs.Refusals.{first_of, whole}
use Rattle.theory_records.specs.Heads.{whole_says}
use Rattle.theory_records.specs.Encodings.{IsNodeKind}
use Rattle.theory_records.specs.TreeFiles.{stride, node_length}
use Rattle.theory_records.specs.Tests.{both}
use Rattle.theory_records.specs.HeadTests.{head_tests}
use Rattle.read_tree.specs.Nodes.{body_tests_by, node_tests_by}
use Rattle.write_bytes.specs.Wrote.{Wrote, written, wrote_two, wrote_more, wrote_is}

-- a node record with another parent
unfoldable pub moved_bytes : List ℕ → ℕ → List ℕ
moved_bytes bytes parent = take 4 bytes ++ (word_bytes parent ++ drop 6 bytes)

-- a record of another kind is left alone; one of the kind stands behind the nodes, and is judged there
pub record RecordJudged (second : Bool) (kind : ℕ) (classes places : List ℕ) (nodes records : ℕ) (out end rest : List ℕ) (r : ℕ) : Type 0 where
  pub other : (word rest 2 ≡ kind → ⊥) → (r ≡ 2) × (end ≡ out)
  pub same : word rest 2 ≡ kind → (r ≡ first_of (node_tests_by second kind classes end nodes (drop (stride kind * nodes) end)))
      × (end ≡ written out (stride kind * nodes) (moved_bytes (take (word rest 0) rest) (get_or (take records places) (word rest 4) 65535)))
  pub low : r ≤ 16

-- a number of the table
first_low : (m : ℕ) (ts : List (ℕ × Bool)) → every (λ (t : ℕ × Bool). leb t.0 m) ts ≡ true → first_of ts ≤ m
unfolding first_of every
first_low m [] e = omega arith
first_low m ((n, true) ∷ ts) e = leb-true n m (both (leb n m) _ e).0
first_low m ((n, false) ∷ ts) e = first_low m ts (both (leb n m) _ e).1

tests_low : (second : Bool) (kind : ℕ) (classes bytes : List ℕ) (n : ℕ) (l : List ℕ) → first_of (node_tests_by second kind classes bytes n l) ≤ 16
unfolding node_tests_by head_tests body_tests_by every
tests_low second kind classes bytes n l = first_low 16 _ refl

-- The new parent, return by return
inside : (l : List ℕ) (i d e : ℕ) → i < length l → get_or l i d ≡ get_or l i e
inside [] i d e h = absurd (omega arith)
inside (x ∷ l) zero d e h = refl
inside (x ∷ l) (suc i) d e h = inside l i d e (omega arith)

module _ (places : List ℕ) (records parent : ℕ) where
  pub parent_placed : parent < records → records ≤ length places → {x : ℕ} → x ≡ get_or places parent 0 → x ≡ get_or (take records places) parent 65535
  parent_placed h k e = e ∙ (inside places parent 0 65535 (omega arith) ∙ sym (get_or-take records places parent 65535 h))

  pub parent_none : records ≤ parent → 65535 ≡ get_or (take records places) parent 65535
  parent_none h = sym (get_or-eq_default (take records places) 65535 (let e = length-take records places in omega arith))

-- the record with its new parent, as the code puts it
pub moved_wrote : {o a b : List ℕ} {at p q : ℕ} (node : List ℕ) (parent : ℕ) → 6 ≤ length node → at + length node ≤ length o → Wrote o a at (take 4 node) p
    → Wrote (set (set a p (parent % 256)) (p + 1) (parent / 256 % 256)) b (at + 6) (take (length node - 6) (drop 6 node)) q
    → Wrote o b at (moved_bytes node parent) q
unfolding moved_bytes word_bytes
moved_wrote {o} {a} {b} {at} {p} {q} node parent six room one three =
    let four = length-take-le 4 node (omega arith) in
    let after = one.after in
    let kept = one.kept in
    let two = wrote_two a p (parent % 256) (parent / 256 % 256) (omega arith) in
    let next : at + 6 ≡ p + 2 = omega arith in
    wrote_is
    (append_assoc (take 4 node) (parent % 256 ∷ parent / 256 % 256 ∷ []) (take (length node - 6) (drop 6 node))
    ∙ ap (λ (l : List ℕ). take 4 node ++ (parent % 256 ∷ parent / 256 % 256 ∷ l)) (part_to_end node 6))
    (wrote_more (wrote_more one two) (subst (λ (k : ℕ). Wrote (set (set a p (parent % 256)) (p + 1) (parent / 256 % 256)) b k (take (length node - 6) (drop 6 node)) q) next three))

-- A whole record of the kind, as the code has it
pub record NodeHere (kind : ℕ) (l : List ℕ) : Type 0 where
  pub long : word l 0 ≡ stride kind
  pub within : stride kind ≤ length l
  pub some : 9 ≤ stride kind

pub stride_nine : (kind : ℕ) → 9 ≤ stride kind
unfolding stride value_bytes
stride_nine kind = go (eqb kind 5)
  where
    go : (b : Bool) → 9 ≤ 7 + cond b 4 2
    go true = omega arith
    go false = omega arith

pub node_here : {kind : ℕ} → IsNodeKind kind → (l : List ℕ) → whole l ≡ true → {k : ℕ} → k ≡ word l 2 → k ≡ kind → NodeHere kind l
unfolding record_length record_kind
node_here {kind} is_node l e its is =
    let w = whole_says l e in
    let long = node_length is_node l w (sym its ∙ is) in
    let within = w.within in
    record { long = long; within = omega arith; some = stride_nine kind }

pub node_part : {kind : ℕ} {l : List ℕ} → NodeHere kind l → {end : ℕ} → end ≡ word l 0 → length (take end l) ≡ stride kind
node_part {kind} {l} h {end} e =
    let long = h.long in
    let within = h.within in
    length-take-le end l (omega arith) ∙ (omega arith)

-- there is room for it
pub node_room : {kind : ℕ} {l : List ℕ} → NodeHere kind l → {end : ℕ} → end ≡ word l 0 → (w n m : ℕ) → w ≡ 7 + value_bytes kind → stride kind * n + length l ≤ m
    → (6 ≤ length (take end l)) × (w * n + length (take end l) ≤ m)
unfolding stride
node_room {kind} {l} h {end} e w n m told room =
    let long = node_part h e in
    let within = h.within in
    let some = h.some in
    (omega arith, subst (λ (k : ℕ). k * n + length (take end l) ≤ m) (sym told) (omega arith))

pub node_at : (kind w n : ℕ) → w ≡ 7 + value_bytes kind → w * n ≡ stride kind * n
unfolding stride
node_at kind w n e = ap (λ (k : ℕ). k * n) e

-- One record, return by return
module _ (second : Bool) (kind : ℕ) (classes places : List ℕ) (nodes records : ℕ) (out rest : List ℕ) {k : ℕ} (its : k ≡ word rest 2) where
  pub record_other : (k ≡ kind → ⊥) → RecordJudged second kind classes places nodes records out out rest 2
  record_other h = record { other = λ z. (refl, refl); same = λ e. absurd (h (its ∙ e)); low = omega arith }

  pub record_same : k ≡ kind → (end : List ℕ) {w : ℕ} → w ≡ 7 + value_bytes kind → {len old p q r : ℕ} → len ≡ word rest 0 → old ≡ word rest 4
      → p ≡ get_or (take records places) old 65535 → Wrote out end (w * nodes) (moved_bytes (take len rest) p) q
      → r ≡ first_of (node_tests_by second kind classes end nodes (drop (w * nodes) end))
      → RecordJudged second kind classes places nodes records out end rest r
  record_same h end {w} told {len} {old} {p} long parent new wrote given =
      let at = node_at kind w nodes told in
      record {
        other = λ z. absurd (z (sym its ∙ h));
        same = λ e. (
          given ∙ ap (λ (j : ℕ). first_of (node_tests_by second kind classes end nodes (drop j end))) at,
          wrote.bytes
              ∙ (ap (λ (j : ℕ). written out j (moved_bytes (take len rest) p)) at
              ∙ ap₂ (λ (j m : ℕ). written out (stride kind * nodes) (moved_bytes (take j rest) m)) long
              (new ∙ ap (λ (j : ℕ). get_or (take records places) j 65535) parent)),
        );
        low = let t = tests_low second kind classes end nodes (drop (w * nodes) end) in omega arith;
      }
