-- What is written is read back: a walk over encodings accepts each and gives what was encoded.
use Prim.Native.Nat.{ℕ, suc, ◌+◌, ◌^◌, ◌<◌}
use Rattle.std.specs.Prelude.{◌≡◌, Bool, true, false, cond}
use Rattle.std.proofs.Common.{sym, ◌∙◌, add-zero, zero-add}
use Rattle.std.proofs.Math.Path.{ap}
use mathlib.Core.List.{List, [], ◌∷◌, ◌++◌, map, flatten, append_assoc, append-nil}
use native.Mathlib.Omega.{arith}
use Rattle.std.proofs.Math.ListN.{length, drop, length-append}
use Rattle.std.proofs.Math.Seq.{append_snoc}
use Rattle.meaning.specs.Lists.{is_empty}
use Rattle.meaning.specs.Paths.{Label, class_of, singles}
use Rattle.meaning.specs.Trees.{Node}
use Rattle.meaning.specs.Records.{word_bytes, record_length, record_body, record_bytes, read_node, node_bytes, value_bytes, number_bytes}
use Rattle.meaning.specs.Refusals.{Walked, first_of, walk, good_root, good_below, repeated, tree_tests}
use Rattle.theory_records.specs.Walks.{walk_step, walk_end}
use Rattle.theory_records.specs.Heads.{written_length, written_kind, written_body, written_rest, bytes_length}
use Rattle.theory_records.specs.Judged.{node_passes}
use Rattle.theory_records.specs.Encodings.{IsNodeKind, node_ends, kind_small, value_small, written_whole, node_read}
use Rattle.theory_records.specs.Bytes.{number_length}

-- what a walk has to know of one encoding in front of a rest
pub record Reads {S A : Type 0} (tests : S → List ℕ → List (ℕ × Bool)) (next : S → List ℕ → S) (add : S → A → S) (encode : A → List ℕ)
    (s : S) (x : A) : Type 0 where
  pub some : 0 < length (encode x)
  pub accepted : (rest : List ℕ) → first_of (tests s (encode x ++ rest)) ≡ 0
  pub long : (rest : List ℕ) → record_length (encode x ++ rest) ≡ length (encode x)
  pub behind : (rest : List ℕ) → drop (length (encode x)) (encode x ++ rest) ≡ rest
  pub read : (rest : List ℕ) → next s (encode x ++ rest) ≡ add s x

module _ {S A : Type 0} (tests : S → List ℕ → List (ℕ × Bool)) (next : S → List ℕ → S) (add : S → A → S) (encode : A → List ℕ) where
  -- each reads after those before it
  pub data AllRead : S → List A → Type 0 where
    no_more : {s : S} → AllRead s []
    one_read : {s : S} {x : A} {xs : List A} → Reads tests next add encode s x → AllRead (add s x) xs → AllRead s (x ∷ xs)

  abbrev pub add_all : S → List A → S
  add_all s [] = s
  add_all s (x ∷ xs) = add_all (add s x) xs

  pub walk_written : (n : ℕ) {s : S} {xs : List A} (rest : List ℕ) → AllRead s xs
      → walk tests next 0 n s (flatten (map encode xs) ++ rest) ≡ walk tests next 0 (n + length xs) (add_all s xs) rest
  unfolding flatten
  walk_written n {s} rest no_more = ap (λ (m : ℕ). walk tests next 0 m s rest) (sym (add-zero n))
  walk_written n {s} rest (one_read {x = x} {xs = xs} r rs) =
      let more : List ℕ = flatten (map encode xs) ++ rest in
      let size : length (encode x ++ more) ≡ length (encode x) + length more = length-append (encode x) more in
      ap (λ (l : List ℕ). walk tests next 0 n s l) (append_assoc (encode x) (flatten (map encode xs)) rest)
      ∙ (walk_step tests next n s (encode x ++ more) (omega (arith, r.some)) (r.accepted more) (omega (arith, r.some, r.long more))
      ∙ (step x more (r.read more) (ap (λ (k : ℕ). drop k (encode x ++ more)) (r.long more) ∙ r.behind more)
      ∙ (walk_written (suc n) rest rs ∙ ap (λ (m : ℕ). walk tests next 0 m (add_all (add s x) xs) rest) (count n (length xs)))))
    where
      count : (a b : ℕ) → suc a + b ≡ a + suc b
      count a b = omega arith

      step : (x : A) (more : List ℕ) → next s (encode x ++ more) ≡ add s x → drop (record_length (encode x ++ more)) (encode x ++ more) ≡ more
          → walk tests next 0 (suc n) (next s (encode x ++ more)) (drop (record_length (encode x ++ more)) (encode x ++ more))
          ≡ walk tests next 0 (suc n) (add s x) more
      step x more e q = rw (e, q)

-- A list of what was read, one more at its end
abbrev pub at_end : {A : Type 0} → List A → A → List A
at_end xs x = xs ++ (x ∷ [])

-- what holds of every encoding: its length, and what stands behind it
module _ (kind : ℕ) (body : List ℕ) (fits : 4 + length body < 65536) where
  pub record_some : 0 < length (record_bytes kind body)
  record_some = omega (arith, bytes_length kind body)

  pub record_long : (rest : List ℕ) → record_length (record_bytes kind body ++ rest) ≡ length (record_bytes kind body)
  record_long rest = written_length kind body rest fits ∙ sym (bytes_length kind body)

  pub record_behind : (rest : List ℕ) → drop (length (record_bytes kind body)) (record_bytes kind body ++ rest) ≡ rest
  record_behind rest = ap (λ (k : ℕ). drop k (record_bytes kind body ++ rest)) (bytes_length kind body) ∙ written_rest kind body rest

-- Nodes, of a kind
pub record NodeFits (kind : ℕ) (x : Node) : Type 0 where
  pub parent : x.parent < 65536
  pub value : x.value < 256 ^ value_bytes kind

module _ (labels : List Label) where
  abbrev pub next_node : List Node → List ℕ → List Node
  next_node nodes l = nodes ++ (read_node (record_body l) ∷ [])

  pub node_reads : (second : Bool) {kind : ℕ} → IsNodeKind kind → (nodes : List Node) (x : Node) → NodeFits kind x → length nodes < 4096
      → cond (is_empty nodes) (good_root x) (good_below labels nodes x) ≡ true → repeated (singles second (class_of labels)) nodes x ≡ false
      → Reads (tree_tests second kind labels) next_node at_end (node_bytes kind) nodes x
  unfolding node_bytes
  node_reads second {kind} is_node nodes x fits room good once =
      record {
        some = record_some kind body small;
        accepted =
            λ rest.
            node_passes second kind labels nodes (record_bytes kind body ++ rest) room
            (written_whole kind body rest small (kind_small is_node) ∙ node_ends is_node body long)
            (written_kind kind body rest (kind_small is_node))
            (rw (same rest) good) (rw (same rest) once);
        long = record_long kind body small;
        behind = record_behind kind body small;
        read = λ rest. ap (λ (y : Node). nodes ++ (y ∷ [])) (same rest);
      }
    where
      body : List ℕ
      body = word_bytes x.parent ++ (x.label ∷ number_bytes (value_bytes kind) x.value)

      long : length body ≡ 3 + value_bytes kind
      long = unfold word_bytes in omega (arith, number_length (value_bytes kind) x.value)

      small : 4 + length body < 65536
      small = omega (arith, long, value_small kind)

      same : (rest : List ℕ) → read_node (record_body (record_bytes kind body ++ rest)) ≡ x
      same rest = ap read_node (written_body kind body rest small) ∙ node_read (value_bytes kind) x fits.parent fits.value

pub add_all_end : {A : Type 0} (tests : List A → List ℕ → List (ℕ × Bool)) (next : List A → List ℕ → List A) (encode : A → List ℕ) (done xs : List A)
    → add_all tests next at_end encode done xs ≡ done ++ xs
add_all_end tests next encode done [] = sym (append-nil done)
add_all_end tests next encode done (x ∷ xs) = add_all_end tests next encode (done ++ (x ∷ [])) xs ∙ append_snoc done x xs

-- a walk over encodings to the end
pub walk_written_all : {A : Type 0} (tests : List A → List ℕ → List (ℕ × Bool)) (next : List A → List ℕ → List A) (encode : A → List ℕ)
    (xs : List A) → AllRead tests next at_end encode [] xs
    → walk tests next 0 0 [] (flatten (map encode xs)) ≡ record { number = 0; at = length xs; state = xs }
walk_written_all {A = A} tests next encode xs all =
    ap (λ (l : List ℕ). walk tests next 0 0 [] l) (sym (append-nil (flatten (map encode xs))))
    ∙ (walk_written tests next at_end encode 0 [] all
    ∙ (walk_end tests next (0 + length xs) (add_all tests next at_end encode [] xs) ∙ finish (0 + length xs) (add_all tests next at_end encode [] xs) (zero-add (length xs)) (add_all_end tests next encode [] xs)))
  where
    finish : (n : ℕ) (ys : List A) → n ≡ length xs → ys ≡ xs
        → ◌≡◌ {A = Walked (List A)} (record { number = 0; at = n; state = ys }) (record { number = 0; at = length xs; state = xs })
    finish n ys e q = λ i. record { number = 0; at = e i; state = q i }
