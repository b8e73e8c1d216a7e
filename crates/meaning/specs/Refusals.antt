-- The refusal table: document 01, "Refusal numbers". Each record is judged by an ordered list of numbers and tests, and the first test
-- that holds gives the number: "in one record 7, then 1, 2, 3, 4, 5, 6, 8, 9"; 15 stands "after 6 within the record and before 8".
use Rattle.std.specs.Prelude.{ℕ, zero, suc, ◌-◌, Bool, false, cond, ◌&&◌, ◌||◌, not, List, [], ◌∷◌, ◌++◌, leb, ltb, eqb, length, get_or, drop}
use Rattle.meaning.specs.Limits
use Rattle.meaning.specs.Limits.{KeyLimits, in_profile, in_proof}
use Rattle.meaning.specs.Lists.{every, any, is_empty, same, ascending}
use Rattle.meaning.specs.Paths.{Label, declared, is_label, class_of, singles, is_element, normal, simple, join, valid}
use Rattle.meaning.specs.Trees.{Node, no_node}
use Rattle.meaning.specs.Keys.{Key}
use Rattle.meaning.specs.Rules.{Line}
use Rattle.meaning.specs.Records.{record_length, record_kind, record_body, body_ends, read_label, key_in, key_body, read_node, read_line}

-- "A refusal returns number, input .. and record number". Number 0 stands for no refusal
pub record Refusal : Type 0 where
  pub number : ℕ
  pub input : ℕ
  pub place : ℕ

abbrev pub sound : Refusal
sound = record { number = 0; input = 0; place = 0 }

-- the first that refuses
unfoldable pub first_refusal : List Refusal → Refusal
first_refusal [] = sound
first_refusal (r ∷ rs) = cond (eqb r.number 0) (first_refusal rs) r

-- the number of the first test that holds, 0 if none does
unfoldable pub first_of : List (ℕ × Bool) → ℕ
first_of [] = 0
first_of (t ∷ ts) = cond t.1 t.0 (first_of ts)

-- 7: "this key, node or line is one too many (its 4 head bytes decide)"
unfoldable pub too_many : ℕ → ℕ → ℕ → List ℕ → Bool
too_many kind limit count l = leb Limits.head_bytes (length l) && eqb (record_kind l) kind && leb limit count

-- 1: "a record is shorter than 4 or runs past the end, or its body does not end exactly where its kind says"
unfoldable pub whole : List ℕ → Bool
whole l =
    leb Limits.head_bytes (length l) && leb Limits.head_bytes (record_length l) && leb (record_length l) (length l)
    && body_ends (record_kind l) (record_body l)

-- 3: "label number outside 2..200 or not ascending; class; name ill-formed or used before". "1 to 32 bytes: ASCII letter first, then letters,
-- digits, `-`, `_`"
unfoldable pub is_letter : ℕ → Bool
is_letter b = leb 65 b && leb b 90 || leb 97 b && leb b 122

unfoldable pub in_name : ℕ → Bool
in_name b = is_letter b || leb 48 b && leb b 57 || eqb b 45 || eqb b 95

unfoldable pub is_name : List ℕ → Bool
is_name [] = false
is_name (b ∷ name) = is_letter b && every in_name name && leb (suc (length name)) Limits.longest_name

unfoldable pub good_label : List Label → Label → Bool
good_label labels l =
    leb Limits.first_declared l.number && leb l.number Limits.last_declared && every (λ (k : Label). ltb k.number l.number) labels
    && (eqb l.class Limits.element_class || eqb l.class Limits.attribute_class)
    && is_name l.name && not (any (λ (k : Label). same k.name l.name) labels)

-- 4: "symbol not 0, 1 or declared; doubled 0; path too long; 0 in a key path"
unfoldable pub is_symbol : List Label → ℕ → Bool
is_symbol labels s = eqb s 0 || eqb s Limits.text_label || declared labels s

unfoldable pub good_path : List Label → ℕ → List ℕ → Bool
good_path labels limit p = every (is_symbol labels) p && normal p && leb (length p) limit

unfoldable pub good_symbols : List Label → KeyLimits → Key → Bool
good_symbols labels limits k =
    good_path labels limits.symbols k.context && good_path labels limits.symbols k.target
    && every (λ (p : List ℕ). good_path labels limits.path_symbols p && simple p) k.paths

-- 5: "key paths: none, too many, out of order, repeated"
unfoldable pub good_set : KeyLimits → Key → Bool
good_set limits k = leb 1 (length k.paths) && leb (length k.paths) limits.paths && ascending k.paths

-- 6: "C.T.P not valid for some P"
unfoldable pub all_valid : List Label → Key → Bool
all_valid labels k = every (λ (p : List ℕ). valid (class_of labels) (join (join k.context k.target) p)) k.paths

unfoldable pub key_tests : List Label → KeyLimits → Key → List (ℕ × Bool)
key_tests labels limits k =
    (4, not (good_symbols labels limits k)) ∷ (5, not (good_set limits k)) ∷ (6, not (all_valid labels k)) ∷ []

-- 15: "A profile with two equal keys is to be refused at the later one": one of the keys before has its body. A question and a proof line
-- may repeat a key
unfoldable pub key_twice : List Key → Key → Bool
key_twice keys k = any (λ (m : Key). same (key_body m) (key_body k)) keys

unfoldable pub profile_key_tests : List Label → List Key → Key → List (ℕ × Bool)
profile_key_tests labels keys k = key_tests labels in_profile k ++ ((15, key_twice keys k) ∷ [])

-- "In each input its size, then records from the front": what was read before a refusal, its number (0: none) and the record's
pub record Walked (S : Type 0) : Type 0 where
  pub number : ℕ
  pub at : ℕ
  pub state : S

-- From the front, by the bytes: `skip` bytes of record n - 1 are still to pass; at 0 a record stands here and is judged against what was
-- read so far
module _ {S : Type 0} (tests : S → List ℕ → List (ℕ × Bool)) (next : S → List ℕ → S) where
  unfoldable pub walk : ℕ → ℕ → S → List ℕ → Walked S
  walk skip n s [] = record { number = 0; at = n; state = s }
  walk (suc skip) n s (b ∷ l) = walk skip n s l
  walk zero n s (b ∷ l) =
      elim (first_of (tests s (b ∷ l))) [
        | zero ↦ walk (record_length (b ∷ l) - 1) (suc n) (next s (b ∷ l)) l
        | suc r ↦ record { number = suc r; at = n; state = s }
      ]

-- "A profile is labels, numbers ascending, then keys."
pub record Profile : Type 0 where
  pub labels : List Label
  pub keys : List Key

abbrev pub no_profile : Profile
no_profile = record { labels = []; keys = [] }

-- kind 1 before the first key, or kind 2
unfoldable pub in_profile_order : Profile → ℕ → Bool
in_profile_order p kind = eqb kind Limits.label_kind && is_empty p.keys || eqb kind Limits.key_kind

unfoldable pub profile_tests : Profile → List ℕ → List (ℕ × Bool)
profile_tests p l =
    (7, too_many Limits.key_kind Limits.profile_keys (length p.keys) l) ∷ (1, not (whole l)) ∷ (2, not (in_profile_order p (record_kind l)))
    ∷ cond (eqb (record_kind l) Limits.label_kind) ((3, not (good_label p.labels (read_label (record_body l)))) ∷ [])
    (profile_key_tests p.labels p.keys (key_in (record_body l)))

unfoldable pub profile_next : Profile → List ℕ → Profile
profile_next p l =
    cond (eqb (record_kind l) Limits.label_kind)
    (record { labels = p.labels ++ (read_label (record_body l) ∷ []); keys = p.keys })
    (record { labels = p.labels; keys = p.keys ++ (key_in (record_body l) ∷ []) })

-- "A profile of edition 2 begins with a record of kind 6, one byte, 2; without it the profile is edition 1." Labels and keys stand behind it
unfoldable pub has_edition : List ℕ → Bool
has_edition bytes = whole bytes && eqb (record_kind bytes) Limits.edition_kind

unfoldable pub behind_edition : List ℕ → List ℕ
behind_edition bytes = cond (has_edition bytes) (drop (record_length bytes) bytes) bytes

-- the number of the record that stands there
unfoldable pub first_entry : List ℕ → ℕ
first_entry bytes = cond (has_edition bytes) 1 0

unfoldable pub profile_walked : List ℕ → Walked Profile
profile_walked bytes = walk profile_tests profile_next 0 (first_entry bytes) no_profile (behind_edition bytes)

-- 3: "an edition byte other than 2 is refused by 3"
unfoldable pub edition_refusal : List ℕ → Refusal
edition_refusal bytes =
    cond (has_edition bytes && not (eqb (get_or (record_body bytes) 0 0) Limits.second_edition)) (record { number = 3; input = 1; place = 0 }) sound

-- what the bytes of an accepted profile say
unfoldable pub profile_in : List ℕ → Profile
profile_in bytes = (profile_walked bytes).state

-- 7: "input over its size"
unfoldable pub oversize : ℕ → ℕ → List ℕ → Refusal
oversize input limit bytes = cond (ltb limit (length bytes)) (record { number = 7; input = input; place = 0 }) sound

unfoldable pub profile_refusal : List ℕ → Refusal
profile_refusal bytes =
    let w = profile_walked bytes in
    first_refusal (oversize 1 Limits.profile_bytes bytes ∷ edition_refusal bytes ∷ record { number = w.number; input = 1; place = w.at } ∷ [])

-- "A question is one key record." 1: "question is empty"; 2: "a second question record", after its own 1
unfoldable pub question_tests : List Label → List Key → List ℕ → List (ℕ × Bool)
question_tests labels read l =
    (1, not (whole l)) ∷ (2, not (eqb (record_kind l) Limits.key_kind && is_empty read)) ∷ key_tests labels in_profile (key_in (record_body l))

unfoldable pub question_walked : List Label → List ℕ → Walked (List Key)
question_walked labels bytes =
    walk (question_tests labels) (λ (read : List Key) (l : List ℕ). read ++ (key_in (record_body l) ∷ [])) 0 0 [] bytes

unfoldable pub question_refusal : List Label → List ℕ → Refusal
question_refusal labels bytes =
    let w = question_walked labels bytes in
    first_refusal
    (record { number = w.number; input = 2; place = w.at } ∷ cond (is_empty bytes) (record { number = 1; input = 2; place = 0 }) sound ∷ [])

unfoldable pub question_in : List ℕ → Key
question_in bytes = key_in (record_body bytes)

-- 8: "parent, label or value not as above; parent is attribute or text". "the root is node 0 with parent 65535"; "An element's value is 0"
unfoldable pub good_root : Node → Bool
good_root n = eqb n.parent Limits.no_number && eqb n.label Limits.root_label && eqb n.value 0

unfoldable pub good_below : List Label → List Node → Node → Bool
good_below labels nodes n =
    ltb n.parent (length nodes) && is_element (class_of labels (get_or nodes n.parent no_node).label) && is_label labels n.label
    && (not (is_element (class_of labels n.label)) || eqb n.value 0)

-- A file's node records are of the kind of its record 0, whose 4 head bytes decide: "a file that mixes the kinds gives 2 at the first record
-- that differs"
unfoldable pub node_kind_in : List ℕ → ℕ
node_kind_in bytes = cond (leb Limits.head_bytes (length bytes) && eqb (record_kind bytes) Limits.wide_kind) Limits.wide_kind Limits.node_kind

unfoldable pub tree_limit : ℕ → ℕ
tree_limit kind = cond (eqb kind Limits.wide_kind) Limits.wide_tree_bytes Limits.tree_bytes

-- 16: "repeated attribute": a node before it has its name, which is single, and its parent
unfoldable pub repeated : (ℕ → Bool) → List Node → Node → Bool
repeated single nodes n = single n.label && any (λ (m : Node). eqb m.parent n.parent && eqb m.label n.label) nodes

unfoldable pub tree_tests : Bool → ℕ → List Label → List Node → List ℕ → List (ℕ × Bool)
tree_tests second kind labels nodes l =
    (7, too_many kind Limits.tree_nodes (length nodes) l) ∷ (1, not (whole l)) ∷ (2, not (eqb (record_kind l) kind))
    ∷ (8, not (cond (is_empty nodes) (good_root (read_node (record_body l))) (good_below labels nodes (read_node (record_body l)))))
    ∷ (16, repeated (singles second (class_of labels)) nodes (read_node (record_body l))) ∷ []

unfoldable pub tree_walked : Bool → List Label → List ℕ → Walked (List Node)
tree_walked second labels bytes =
    walk (tree_tests second (node_kind_in bytes) labels) (λ (nodes : List Node) (l : List ℕ). nodes ++ (read_node (record_body l) ∷ [])) 0 0 [] bytes

unfoldable pub nodes_in : Bool → List Label → List ℕ → List Node
nodes_in second labels bytes = (tree_walked second labels bytes).state

-- 8: "tree empty"
unfoldable pub tree_refusal : Bool → List Label → List ℕ → Refusal
tree_refusal second labels bytes =
    let w = tree_walked second labels bytes in
    first_refusal
    (oversize 3 (tree_limit (node_kind_in bytes)) bytes ∷ record { number = w.number; input = 3; place = w.at }
    ∷ cond (is_empty bytes) (record { number = 8; input = 3; place = 0 }) sound ∷ [])

-- A proof line up to 6; whether it follows (9) is asked of the lines so read
unfoldable pub line_tests : List Label → List Line → List ℕ → List (ℕ × Bool)
line_tests labels lines l =
    (7, too_many Limits.line_kind Limits.proof_lines (length lines) l) ∷ (1, not (whole l)) ∷ (2, not (eqb (record_kind l) Limits.line_kind))
    ∷ key_tests labels in_proof (read_line (record_body l)).key

unfoldable pub proof_walked : List Label → List ℕ → Walked (List Line)
proof_walked labels bytes =
    walk (line_tests labels) (λ (lines : List Line) (l : List ℕ). lines ++ (read_line (record_body l) ∷ [])) 0 0 [] bytes

-- "Inclusion .. gives 4, or 6 for the path alone"
unfoldable pub path_refusal : List Label → ℕ → List ℕ → Refusal
path_refusal labels input p =
    record {
      number = first_of ((4, not (good_path labels Limits.bare_path p)) ∷ (6, not (valid (class_of labels) p)) ∷ []);
      input = input;
      place = 0;
    }

-- 14: "every operation that fills an answer buffer ..: it is under 65,536 bytes"
unfoldable pub answer_refusal : List ℕ → Refusal
answer_refusal buffer = cond (ltb (length buffer) Limits.answer_bytes) (record { number = 14; input = 4; place = 0 }) sound
