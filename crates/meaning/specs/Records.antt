-- Records as bytes, each reading and each encoding: document 01, "Records".
use Rattle.std.specs.Prelude.{ℕ, zero, suc, ◌+◌, ◌*◌, ◌/◌, ◌%◌, ◌-◌, Bool, true, false, cond, ◌&&◌, ◌||◌, leb, eqb, length, get_or, take, drop}
use mathlib.Core.List.{List, [], ◌∷◌, ◌++◌, map, flatten}
use Rattle.std.proofs.Math.Option
use Rattle.std.proofs.Math.Option.{Option, none, some}
use Rattle.meaning.specs.Limits.{label_kind, key_kind, node_kind, line_kind, wide_kind, edition_kind, head_bytes, node_fields, line_fields}
use Rattle.meaning.specs.Paths.{Label}
use Rattle.meaning.specs.Trees.{Node}
use Rattle.meaning.specs.Keys.{Key}
use Rattle.meaning.specs.Rules.{Line}

-- "two bytes, little-endian"
unfoldable pub word : List ℕ → ℕ → ℕ
word l i = get_or l i 0 + 256 * get_or l (i + 1) 0

unfoldable pub word_bytes : ℕ → List ℕ
word_bytes n = n % 256 ∷ n / 256 % 256 ∷ []

-- the same over any width: the number that bytes say, and so many bytes of a number
unfoldable pub number : List ℕ → ℕ
number [] = 0
number (b ∷ l) = b + 256 * number l

unfoldable pub number_bytes : ℕ → ℕ → List ℕ
number_bytes zero n = []
number_bytes (suc width) n = n % 256 ∷ number_bytes width (n / 256)

-- "Every record: length of the whole record (two bytes, little-endian), kind (two bytes), body." The record stands at the front
unfoldable pub record_length : List ℕ → ℕ
record_length l = word l 0

unfoldable pub record_kind : List ℕ → ℕ
record_kind l = word l 2

unfoldable pub record_body : List ℕ → List ℕ
record_body l = take (record_length l - head_bytes) (drop head_bytes l)

unfoldable pub record_bytes : ℕ → List ℕ → List ℕ
record_bytes kind body = word_bytes (head_bytes + length body) ++ (word_bytes kind ++ body)

-- Kind 1: "number, class (1 element, 2 attribute), name, the rest"
unfoldable pub read_label : List ℕ → Label
read_label body = record { number = get_or body 0 0; class = get_or body 1 0; name = drop 2 body }

unfoldable pub label_bytes : Label → List ℕ
label_bytes l = record_bytes label_kind (l.number ∷ l.class ∷ l.name)

-- Kind 2: "length and symbols of C; of T; count of key paths; length and symbols of each". "Lengths and counts inside a key body are one byte."
-- A path and what stands behind it, where the bytes hold it whole
unfoldable pub take_path : List ℕ → Option (List ℕ × List ℕ)
take_path [] = none
take_path (n ∷ l) = cond (leb n (length l)) (some (take n l, drop n l)) none

unfoldable pub and_then : {A B : Type 0} → Option A → (A → Option B) → Option B
and_then none f = none
and_then (some a) f = f a

-- as many paths as the count says, and what stands behind them
unfoldable pub take_paths : ℕ → List ℕ → Option (List (List ℕ) × List ℕ)
take_paths zero l = some ([], l)
take_paths (suc count) l =
    and_then (take_path l) (λ p. and_then (take_paths count p.1) (λ ps. some (p.0 ∷ ps.0, ps.1)))

-- the count of key paths and the paths, to the end
unfoldable pub take_set : List ℕ → Option (List (List ℕ) × List ℕ)
take_set [] = none
take_set (count ∷ l) = take_paths count l

unfoldable pub if_ended : Key → List ℕ → Option Key
if_ended k [] = some k
if_ended k (b ∷ l) = none

unfoldable pub read_key : List ℕ → Option Key
read_key body =
    and_then (take_path body)
    (λ c. and_then (take_path c.1)
    (λ t. and_then (take_set t.1) (λ s. if_ended (record { context = c.0; target = t.0; paths = s.0 }) s.1)))

abbrev pub no_key : Key
no_key = record { context = []; target = []; paths = [] }

unfoldable pub key_in : List ℕ → Key
key_in body = Option.get_or (read_key body) no_key

unfoldable pub path_bytes : List ℕ → List ℕ
path_bytes p = length p ∷ p

unfoldable pub key_body : Key → List ℕ
key_body k = path_bytes k.context ++ (path_bytes k.target ++ (length k.paths ∷ flatten (map path_bytes k.paths)))

unfoldable pub key_bytes : Key → List ℕ
key_bytes k = record_bytes key_kind (key_body k)

-- Kind 3: "parent (2), label (1), value (2)"; "a four-byte value as kind 5, 11 bytes long; kind 3 is still read, its value unchanged"
unfoldable pub value_bytes : ℕ → ℕ
value_bytes kind = cond (eqb kind wide_kind) 4 2

unfoldable pub read_node : List ℕ → Node
read_node body = record { parent = word body 0; label = get_or body 2 0; value = number (drop node_fields body) }

unfoldable pub node_bytes : ℕ → Node → List ℕ
node_bytes kind n = record_bytes kind (word_bytes n.parent ++ (n.label ∷ number_bytes (value_bytes kind) n.value))

-- Kind 4: "rule (1), first premise (2), second premise (2), a key body"
unfoldable pub read_line : List ℕ → Line
read_line body = record { rule = get_or body 0 0; first = word body 1; second = word body 3; key = key_in (drop line_fields body) }

unfoldable pub line_bytes : Line → List ℕ
line_bytes l = record_bytes line_kind (l.rule ∷ (word_bytes l.first ++ (word_bytes l.second ++ key_body l.key)))

unfoldable pub is_some : {A : Type 0} → Option A → Bool
is_some none = false
is_some (some a) = true

-- A body ends exactly where its kind says; an unknown kind says nothing of its body
unfoldable pub body_ends : ℕ → List ℕ → Bool
body_ends kind body =
    cond (eqb kind label_kind) (leb 2 (length body))
    (cond (eqb kind key_kind) (is_some (read_key body))
    (cond (eqb kind node_kind || eqb kind wide_kind) (eqb (length body) (node_fields + value_bytes kind))
    (cond (eqb kind line_kind) (leb line_fields (length body) && is_some (read_key (drop line_fields body)))
    (cond (eqb kind edition_kind) (eqb (length body) 1) true))))
