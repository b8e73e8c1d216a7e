-- Each kind of record: an accepted record's bytes are its encoding, and an encoding is read back.
use Rattle.std.specs.Prelude.{ℕ, ◌+◌, ◌*◌, ◌/◌, ◌%◌, ◌-◌, ◌^◌, ◌≤◌, ◌<◌, ◌≡◌, refl, ◌⊎◌, Bool, true, false, cond, List, [], ◌∷◌, ◌++◌, leb, eqb, length, get_or, drop}
use Rattle.std.proofs.Common.{sym, subst, ap, ◌∙◌, inl, inr, arith, leb-true, le-leb, eqb-true, eq-eqb, length-append, length-drop}
use Rattle.meaning.specs.Paths.{Label}
use Rattle.meaning.specs.Trees.{Node}
use Rattle.meaning.specs.Rules.{Line}
use Rattle.meaning.specs.Records.{word, word_bytes, record_length, record_kind, record_body, record_bytes, read_label, label_bytes, key_in, read_key, key_body, key_bytes, read_node, node_bytes, value_bytes, number, number_bytes, read_line, is_some, body_ends}
use Rattle.meaning.specs.Refusals.{whole}
use Rattle.theory_records.specs.Tests.{both}
use Rattle.theory_records.specs.Bytes.{Bytes, bytes_drop, bytes_take, word_bytes_word, word_word_bytes, number_bytes_lem, bytes_number}
use Rattle.theory_records.specs.Heads.{Whole, record_written, written_length, written_kind, written_body, bytes_length}
use Rattle.theory_records.specs.KeyBodies.{key_in_written, key_in_read}

-- What each kind says of the end of its body
pub ends_label : (l : List ℕ) → Whole l → record_kind l ≡ 1 → 2 ≤ length (record_body l)
unfolding body_ends
ends_label l w k = leb-true _ _ (subst (λ (kind : ℕ). body_ends kind (record_body l) ≡ true) k w.ends)

pub ends_key : (l : List ℕ) → Whole l → record_kind l ≡ 2 → is_some (read_key (record_body l)) ≡ true
unfolding body_ends
ends_key l w k = subst (λ (kind : ℕ). body_ends kind (record_body l) ≡ true) k w.ends

-- a node's kind: 3, or 5
abbrev pub IsNodeKind : ℕ → Type 0
IsNodeKind kind = (kind ≡ 3) ⊎ (kind ≡ 5)

-- and both ask the same of the body, over the value's width
node_asks : {kind : ℕ} → IsNodeKind kind → (body : List ℕ) → body_ends kind body ≡ eqb (length body) (3 + value_bytes kind)
unfolding body_ends
node_asks (inl e) body = rw e
node_asks (inr e) body = rw e

pub ends_node : {kind : ℕ} → IsNodeKind kind → (l : List ℕ) → Whole l → record_kind l ≡ kind → length (record_body l) ≡ 3 + value_bytes kind
ends_node is_node l w k =
    eqb-true _ _ (sym (node_asks is_node (record_body l)) ∙ subst (λ (kind : ℕ). body_ends kind (record_body l) ≡ true) k w.ends)

-- a body of so many bytes is a node's
pub node_ends : {kind : ℕ} → IsNodeKind kind → (body : List ℕ) → length body ≡ 3 + value_bytes kind → body_ends kind body ≡ true
node_ends is_node body h = node_asks is_node body ∙ eq-eqb _ _ h

pub kind_small : {kind : ℕ} → IsNodeKind kind → kind < 65536
kind_small (inl e) = omega arith
kind_small (inr e) = omega arith

pub value_small : (kind : ℕ) → value_bytes kind ≤ 4
unfolding value_bytes
value_small kind = go (eqb kind 5)
  where
    go : (b : Bool) → cond b 4 2 ≤ 4
    go true = omega arith
    go false = omega arith

pub ends_line : (l : List ℕ) → Whole l → record_kind l ≡ 4 → (5 ≤ length (record_body l)) × (is_some (read_key (drop 5 (record_body l))) ≡ true)
unfolding body_ends
ends_line l w k =
    let e = both _ _ (subst (λ (kind : ℕ). body_ends kind (record_body l) ≡ true) k w.ends) in
    (leb-true _ _ e.0, e.1)

pub ends_edition : (l : List ℕ) → Whole l → record_kind l ≡ 6 → length (record_body l) ≡ 1
unfolding body_ends
ends_edition l w k = eqb-true _ _ (subst (λ (kind : ℕ). body_ends kind (record_body l) ≡ true) k w.ends)

-- the bytes of a record whose kind and body are known
pub record_is : (l : List ℕ) → Bytes l → Whole l → (kind : ℕ) → record_kind l ≡ kind → (body : List ℕ) → body ≡ record_body l
    → record_bytes kind body ++ drop (record_length l) l ≡ l
record_is l bs w kind k body e = rw (e, ← k) (record_written l bs w.head w.long w.within)

pub bytes_body : (l : List ℕ) → Bytes l → Bytes (record_body l)
unfolding record_body
bytes_body l bs = bytes_take (record_length l - 4) (bytes_drop 4 bs)

-- Kind 1
label_body : (body : List ℕ) → 2 ≤ length body → get_or body 0 0 ∷ get_or body 1 0 ∷ drop 2 body ≡ body
label_body [] h = absurd (omega arith)
label_body (a ∷ []) h = absurd (omega arith)
label_body (a ∷ b ∷ l) h = refl

pub label_written : (l : List ℕ) → Bytes l → Whole l → record_kind l ≡ 1
    → label_bytes (read_label (record_body l)) ++ drop (record_length l) l ≡ l
unfolding label_bytes read_label
label_written l bs w k = record_is l bs w 1 k _ (label_body (record_body l) (ends_label l w k))

-- Kind 2
pub key_record_written : (l : List ℕ) → Bytes l → Whole l → record_kind l ≡ 2
    → key_bytes (key_in (record_body l)) ++ drop (record_length l) l ≡ l
unfolding key_bytes
key_record_written l bs w k = record_is l bs w 2 k _ (key_in_written (record_body l) (ends_key l w k))

-- Kinds 3 and 5
front_three : (l : List ℕ) → 3 ≤ length l → get_or l 0 0 ∷ get_or l 1 0 ∷ get_or l 2 0 ∷ drop 3 l ≡ l
front_three [] h = absurd (omega arith)
front_three (a ∷ []) h = absurd (omega arith)
front_three (a ∷ b ∷ []) h = absurd (omega arith)
front_three (a ∷ b ∷ c ∷ l) h = refl

node_body : (body : List ℕ) (width : ℕ) → Bytes body → length body ≡ 3 + width
    → word_bytes (word body 0) ++ (get_or body 2 0 ∷ number_bytes width (number (drop 3 body))) ≡ body
node_body body width bs h =
    let long : length (drop 3 body) ≡ width = omega (arith, length-drop 3 body) in
    rw (word_bytes_word body 0 bs, ← long, bytes_number (bytes_drop 3 bs)) (front_three body (omega arith))

pub node_written : {kind : ℕ} → IsNodeKind kind → (l : List ℕ) → Bytes l → Whole l → record_kind l ≡ kind
    → node_bytes kind (read_node (record_body l)) ++ drop (record_length l) l ≡ l
unfolding node_bytes read_node
node_written {kind} n l bs w k = record_is l bs w kind k _ (node_body (record_body l) (value_bytes kind) (bytes_body l bs) (ends_node n l w k))

-- An encoding with a rest behind it is a whole record exactly where its kind takes the body
pub written_whole : (kind : ℕ) (body rest : List ℕ) → 4 + length body < 65536 → kind < 65536
    → whole (record_bytes kind body ++ rest) ≡ body_ends kind body
unfolding whole
written_whole kind body rest fits small =
    let all : List ℕ = record_bytes kind body ++ rest in
    let long : record_length all ≡ 4 + length body = written_length kind body rest fits in
    let size : length all ≡ 4 + length body + length rest =
    length-append (record_bytes kind body) rest ∙ ap (λ (n : ℕ). n + length rest) (bytes_length kind body) in
    let one : leb 4 (length all) ≡ true = le-leb 4 (length all) (omega arith) in
    let two : leb 4 (record_length all) ≡ true = le-leb 4 (record_length all) (omega arith) in
    let three : leb (record_length all) (length all) ≡ true = le-leb (record_length all) (length all) (omega arith) in
    rw (one, two, three, written_kind kind body rest small, written_body kind body rest fits)

pub node_read : (width : ℕ) (n : Node) → n.parent < 65536 → n.value < 256 ^ width
    → read_node (word_bytes n.parent ++ (n.label ∷ number_bytes width n.value)) ≡ n
unfolding read_node word word_bytes
node_read width n p v =
    let parent : n.parent % 256 + 256 * (n.parent / 256 % 256) ≡ n.parent = word_word_bytes n.parent [] p in
    let value : number (number_bytes width n.value) ≡ n.value = number_bytes_lem width n.value v in
    λ i. record { parent = parent i; label = n.label; value = value i }

pub line_read : (x : Line) → x.first < 65536 → x.second < 65536
    → read_line (x.rule ∷ (word_bytes x.first ++ (word_bytes x.second ++ key_body x.key))) ≡ x
unfolding read_line word word_bytes
line_read x p v =
    let first : x.first % 256 + 256 * (x.first / 256 % 256) ≡ x.first = word_word_bytes x.first [] p in
    let second : x.second % 256 + 256 * (x.second / 256 % 256) ≡ x.second = word_word_bytes x.second [] v in
    λ i. record { rule = x.rule; first = first i; second = second i; key = key_in_read x.key i }

pub label_read : (x : Label) → read_label (x.number ∷ x.class ∷ x.name) ≡ x
unfolding read_label
label_read x = refl
