-- Whole inputs that are written are accepted and read back: a tree, a question, a proof.
use Prim.Native.Nat.{ℕ, suc, ◌+◌, ◌*◌, ◌≤◌, ◌<◌}
use Rattle.std.specs.Prelude.{◌≡◌, Bool, ◌&&◌, ◌||◌, not, ltb, get_or}
use Rattle.std.proofs.Math.Path.{refl, ap, ap₂}
use Rattle.std.proofs.Common.{sym, subst, ◌∙◌, inl, inr, eqb→eq}
use Rattle.std.proofs.Math.Logic.{⊎_elim}
use Rattle.theory_lists.specs.Bools.{false_of, and_left, and_right, or_cases}
use Rattle.std.proofs.Math.Bool.{true, false, cond}
use mathlib.Core.List.{List, [], ◌∷◌, ◌++◌, map, flatten, append-nil, Memᴰ}
use native.Mathlib.Omega.{arith}
use Rattle.std.proofs.Math.Nat.{mul-le-mul_left, mul-pos}
use borrow.Author.Tests.{le-leb, le-ltb, lt-ltb}
use Rattle.std.proofs.Math.Dec.{T, leb, eqb}
use Rattle.std.proofs.Math.ListN.{length, length-append, get_or-append}
use Rattle.std.proofs.Math.Seq.{append_snoc, get_or-append_seam}
use Rattle.meaning.specs.Limits.{KeyLimits, in_profile, in_proof}
use Rattle.meaning.specs.Lists.{Each, also, is_empty, any}
use Rattle.meaning.specs.Paths.{Label, is_element, class_of, singles, is_label}
use Rattle.meaning.specs.Trees.{Node, no_node}
use Rattle.meaning.specs.Keys.{Key}
use Rattle.meaning.specs.Rules.{Line}
use Rattle.meaning.specs.Records.{word_bytes, record_body, record_bytes, body_ends, node_bytes, value_bytes, number_bytes, key_in, path_bytes, key_body, key_bytes, read_line, line_bytes}
use Rattle.meaning.specs.Refusals.{sound, first_refusal, oversize, Walked, walk, good_root, good_below, repeated, node_kind_in, tree_limit, tree_tests, tree_walked, nodes_in, tree_refusal, line_tests, proof_walked, question_tests, question_walked, question_refusal, question_in}
use Rattle.theory_paths.specs.Good.{GoodKey, tests_of_good, context_length, target_length, key_path_length, paths_within}
use Rattle.theory_records.specs.Tests.{and-true}
use Rattle.theory_records.specs.Heads.{written_kind, written_body}
use Rattle.theory_records.specs.KeyBodies.{key_in_read, key_is_read}
use Rattle.theory_records.specs.Encodings.{IsNodeKind, kind_small, written_whole, line_read}
use Rattle.theory_records.specs.Bytes.{number_length}
use Rattle.theory_records.specs.Judged.{some_empty, line_passes, question_passes}
use Rattle.theory_records.specs.TreeFiles.{stride, stride_least, NodesGood, NodesOnce}
use Rattle.theory_records.specs.Written.{Reads, AllRead, no_more, one_read, at_end, record_some, record_long, record_behind, NodeFits, next_node, node_reads, walk_written_all}

-- a node that is good among all of them is good beside those before it
good_among : (labels : List Label) (done : List Node) (x : Node) (rest : List Node) → NodesGood labels (done ++ (x ∷ rest))
    → cond (is_empty done) (good_root x) (good_below labels done x) ≡ true
unfolding is_empty good_below
good_among labels [] x rest g = g.root (omega arith)
good_among labels (y ∷ done) x rest g =
    let all : List Node = y ∷ done ++ (x ∷ rest) in
    let inside : length (y ∷ done) < length all = omega (arith, length-append done (x ∷ rest)) in
    let b = g.below (length (y ∷ done)) (omega arith) inside in
    let last : get_or all (length (y ∷ done)) no_node ≡ x = get_or-append_seam (y ∷ done) x rest no_node in
    let up : x.parent < length (y ∷ done) = subst (λ (n : Node). n.parent < length (y ∷ done)) last b.above in
    let old : get_or all x.parent no_node ≡ get_or (y ∷ done) x.parent no_node = get_or-append (y ∷ done) (x ∷ rest) no_node x.parent up in
    let one : ltb x.parent (length (y ∷ done)) ≡ true = lt-ltb _ _ up in
    let two : is_element (class_of labels (get_or (y ∷ done) x.parent no_node).label) ≡ true =
    subst (λ (n : Node). is_element (class_of labels n.label) ≡ true) old
    (subst (λ (n : Node). is_element (class_of labels (get_or all n.parent no_node).label) ≡ true) last b.inside) in
    let three : is_label labels x.label ≡ true = subst (λ (n : Node). is_label labels n.label ≡ true) last b.known in
    let four : not (is_element (class_of labels x.label)) || eqb x.value 0 ≡ true =
    subst (λ (n : Node). not (is_element (class_of labels n.label)) || eqb n.value 0 ≡ true) last b.value in
    and-true (and-true (and-true one two) three) four

-- and one that is there once is once beside those before it
once_among : (single : ℕ → Bool) (done : List Node) (x : Node) (rest : List Node) → NodesOnce single (done ++ (x ∷ rest)) → repeated single done x ≡ false
unfolding repeated
once_among single done x rest o =
    false_of (single x.label && any test done)
    (λ h.
    let s = any_found test no_node done (and_right (single x.label) (any test done) h) in
    let last = get_or-append_seam done x rest no_node in
    let old = get_or-append done (x ∷ rest) no_node s.0 s.1 in
    let inside : length done < length (done ++ (x ∷ rest)) = omega (arith, length-append done (x ∷ rest)) in
    o.one s.0 (length done) s.1 inside
    (subst (λ (n : Node). T (single n.label)) (sym last) (and_left (single x.label) (any test done) h))
    (ap (λ (n : Node). n.parent) old ∙ eqb→eq _ _ (and_left (eqb (get_or done s.0 no_node).parent x.parent) _ s.2) ∙ sym (ap (λ (n : Node). n.parent) last))
    (ap (λ (n : Node). n.label) old ∙ eqb→eq _ _ (and_right (eqb (get_or done s.0 no_node).parent x.parent) _ s.2) ∙ sym (ap (λ (n : Node). n.label) last)))
  where
    test : Node → Bool
    test m = eqb m.parent x.parent && eqb m.label x.label

    any_found : (f : Node → Bool) (d : Node) (xs : List Node) → T (any f xs) → (i : ℕ) × (i < length xs) × T (f (get_or xs i d))
    any_found f d [] h = absurd (unfold any in h)
    any_found f d (y ∷ ys) h =
        ⊎_elim (λ (q : T (f y)). (0, omega arith, q))
        (λ (q : T (any f ys)). let r = any_found f d ys q in (suc r.0, (let k = r.1 in omega arith), r.2)) (or_cases (f y) (any f ys) (unfold any in h))

module _ (labels : List Label) where
  nodes_read : (second : Bool) {kind : ℕ} → IsNodeKind kind → (done xs : List Node) → NodesGood labels (done ++ xs)
      → NodesOnce (singles second (class_of labels)) (done ++ xs) → Each (NodeFits kind) xs
      → length (done ++ xs) ≤ 4096 → AllRead (tree_tests second kind labels) (next_node labels) at_end (node_bytes kind) done xs
  nodes_read second is_node done [] g o fits few = no_more
  nodes_read second is_node done (x ∷ xs) g o (also f fits) few =
      one_read (node_reads labels second is_node done x f (omega (arith, length-append done (x ∷ xs))) (good_among labels done x xs g) (once_among (singles second (class_of labels)) done x xs o))
      (nodes_read second is_node (done ++ (x ∷ [])) xs
      (subst (λ (l : List Node). NodesGood labels l) (sym (append_snoc done x xs)) g)
      (subst (λ (l : List Node). NodesOnce (singles second (class_of labels)) l) (sym (append_snoc done x xs)) o)
      fits
      (subst (λ (l : List Node). length l ≤ 4096) (sym (append_snoc done x xs)) few))

  -- as many bytes to a node as its kind says
  pub nodes_size : (kind : ℕ) (nodes : List Node) → length (flatten (map (node_bytes kind) nodes)) ≡ stride kind * length nodes
  unfolding flatten node_bytes record_bytes word_bytes stride
  nodes_size kind [] = omega arith
  nodes_size kind (x ∷ nodes) =
      let w = number_length (value_bytes kind) x.value in
      omega (arith, nodes_size kind nodes, length-append (node_bytes kind x) (flatten (map (node_bytes kind) nodes)))

  -- "still 4,096 nodes": they fill the limit of either kind
  limit_full : (kind : ℕ) → tree_limit kind ≡ stride kind * 4096
  unfolding tree_limit stride value_bytes
  limit_full kind = go (eqb kind 5)
    where
      go : (b : Bool) → cond b 45056 36864 ≡ (7 + cond b 4 2) * 4096
      go true = refl
      go false = refl

  -- the kind of what is written is that of its first node
  kind_written : {kind : ℕ} → IsNodeKind kind → (nodes : List Node) → 0 < length nodes → node_kind_in (flatten (map (node_bytes kind) nodes)) ≡ kind
  unfolding node_kind_in flatten node_bytes
  kind_written is_node [] h = absurd (omega arith)
  kind_written {kind} is_node (x ∷ nodes) h =
      let body : List ℕ = word_bytes x.parent ++ (x.label ∷ number_bytes (value_bytes kind) x.value) in
      let head : leb 4 (length (flatten (map (node_bytes kind) (x ∷ nodes)))) ≡ true =
      le-leb 4 (length (flatten (map (node_bytes kind) (x ∷ nodes))))
      (let s = nodes_size kind (x ∷ nodes) in let l = stride_least kind in omega arith) in
      ap₂ (λ (b : Bool) (k : ℕ). cond (b && eqb k 5) 5 3) head (written_kind kind body (flatten (map (node_bytes kind) nodes)) (kind_small is_node))
      ∙ go is_node
    where
      go : IsNodeKind kind → cond (true && eqb kind 5) 5 3 ≡ kind
      go (inl e) = rw e
      go (inr e) = rw e

  -- a tree that is written is read back
  module _ (second : Bool) {kind : ℕ} (is_node : IsNodeKind kind) (nodes : List Node) (g : NodesGood labels nodes)
      (o : NodesOnce (singles second (class_of labels)) nodes) (fits : Each (NodeFits kind) nodes)
      (few : length nodes ≤ 4096) (some : 0 < length nodes) where
    pub tree_walked_written : tree_walked second labels (flatten (map (node_bytes kind) nodes)) ≡ record { number = 0; at = length nodes; state = nodes }
    unfolding tree_walked
    tree_walked_written =
        ap (λ (k : ℕ). walk (tree_tests second k labels) (next_node labels) 0 0 [] (flatten (map (node_bytes kind) nodes))) (kind_written is_node nodes some)
        ∙ walk_written_all (tree_tests second kind labels) (next_node labels) (node_bytes kind) nodes (nodes_read second is_node [] nodes g o fits few)

    pub nodes_in_written : nodes_in second labels (flatten (map (node_bytes kind) nodes)) ≡ nodes
    unfolding nodes_in
    nodes_in_written = ap (λ (w : Walked (List Node)). w.state) tree_walked_written

    -- .. and accepted
    pub tree_written_sound : tree_refusal second labels (flatten (map (node_bytes kind) nodes)) ≡ sound
    unfolding tree_refusal first_refusal oversize
    tree_written_sound =
        let bytes : List ℕ = flatten (map (node_bytes kind) nodes) in
        let size = nodes_size kind nodes in
        let room = mul-le-mul_left (stride kind) few in
        let within : length bytes ≤ tree_limit kind = omega (arith, limit_full kind) in
        let any = mul-pos (let q : 0 < stride kind = omega (arith, stride_least kind) in q) some in
        let some_bytes : 0 < length bytes = omega arith in
        rw (kind_written is_node nodes some, le-ltb (tree_limit kind) (length bytes) within, tree_walked_written, some_empty bytes some_bytes)

-- How long a key's body can be
paths_size : (most : ℕ) (ps : List (List ℕ)) → ((p : List ℕ) → Memᴰ p ps → length p ≤ most)
    → length (flatten (map path_bytes ps)) ≤ length ps * suc most
unfolding flatten path_bytes
paths_size most [] h = omega arith
paths_size most (p ∷ ps) h =
    let more = paths_size most ps (λ q m. h q (Memᴰ.tail m)) in
    omega (arith, more, h p (Memᴰ.head refl), length-append (path_bytes p) (flatten (map path_bytes ps)))

pub body_size : (labels : List Label) (limits : KeyLimits) (k : Key) → GoodKey labels limits k
    → length (key_body k) ≤ 3 + limits.symbols + limits.symbols + length k.paths * suc limits.path_symbols
unfolding key_body path_bytes
body_size labels limits k g =
    let set : List ℕ = length k.paths ∷ flatten (map path_bytes k.paths) in
    omega (
      arith,
      context_length labels limits k g,
      target_length labels limits k g,
      paths_size limits.path_symbols k.paths (key_path_length labels limits k g),
      length-append k.target set,
      length-append k.context (length k.target ∷ (k.target ++ set)),
    )

pub proof_body_size : (labels : List Label) (k : Key) → GoodKey labels in_proof k → length (key_body k) ≤ 1155
proof_body_size labels k g = omega (arith, body_size labels in_proof k g, paths_within labels in_proof k g)

pub profile_body_size : (labels : List Label) (k : Key) → GoodKey labels in_profile k → length (key_body k) ≤ 55
profile_body_size labels k g = omega (arith, body_size labels in_profile k g, paths_within labels in_profile k g)

-- Lines of a proof
pub record LineFits (labels : List Label) (x : Line) : Type 0 where
  pub first : x.first < 65536
  pub second : x.second < 65536
  pub good : GoodKey labels in_proof x.key

module _ (labels : List Label) where
  abbrev pub next_line : List Line → List ℕ → List Line
  next_line lines l = lines ++ (read_line (record_body l) ∷ [])

  pub line_reads : (lines : List Line) (x : Line) → LineFits labels x → length lines < 256
      → Reads (line_tests labels) next_line at_end line_bytes lines x
  unfolding line_bytes word_bytes
  line_reads lines x fits room =
      record {
        some = record_some 4 body size;
        accepted =
            λ rest.
            line_passes labels lines (record_bytes 4 body ++ rest) room
            (written_whole 4 body rest size (omega arith) ∙ ends)
            (written_kind 4 body rest (omega arith))
            (rw (same rest) (tests_of_good labels in_proof x.key fits.good));
        long = record_long 4 body size;
        behind = record_behind 4 body size;
        read = λ rest. ap (λ (y : Line). lines ++ (y ∷ [])) (same rest);
      }
    where
      body : List ℕ
      body = x.rule ∷ (word_bytes x.first ++ (word_bytes x.second ++ key_body x.key))

      size : 4 + length body < 65536
      size = omega (arith, proof_body_size labels x.key fits.good)

      ends : body_ends 4 body ≡ true
      ends = unfold body_ends in and-true (le-leb 5 (length body) (omega arith)) (key_is_read x.key)

      same : (rest : List ℕ) → read_line (record_body (record_bytes 4 body ++ rest)) ≡ x
      same rest = ap read_line (written_body 4 body rest size) ∙ line_read x fits.first fits.second

  lines_read : (done xs : List Line) → Each (LineFits labels) xs → length (done ++ xs) ≤ 256
      → AllRead (line_tests labels) next_line at_end line_bytes done xs
  lines_read done [] fits few = no_more
  lines_read done (x ∷ xs) (also f fits) few =
      one_read (line_reads done x f (omega (arith, length-append done (x ∷ xs))))
      (lines_read (done ++ (x ∷ [])) xs fits
      (subst (λ (l : List Line). length l ≤ 256) (sym (append_snoc done x xs)) few))

  -- a proof that is written is read back
  pub proof_walked_written : (lines : List Line) → Each (LineFits labels) lines → length lines ≤ 256
      → proof_walked labels (flatten (map line_bytes lines)) ≡ record { number = 0; at = length lines; state = lines }
  unfolding proof_walked
  proof_walked_written lines fits few =
      walk_written_all (line_tests labels) next_line line_bytes lines (lines_read [] lines fits few)

  -- a question that is written is accepted
  next_key : List Key → List ℕ → List Key
  next_key read l = read ++ (key_in (record_body l) ∷ [])

  key_reads : (k : Key) → GoodKey labels in_profile k → Reads (question_tests labels) next_key at_end key_bytes [] k
  unfolding key_bytes next_key
  key_reads k good =
      record {
        some = record_some 2 (key_body k) size;
        accepted =
            λ rest.
            question_passes labels (record_bytes 2 (key_body k) ++ rest)
            (written_whole 2 (key_body k) rest size (omega arith) ∙ (unfold body_ends in key_is_read k))
            (written_kind 2 (key_body k) rest (omega arith))
            (rw (same rest) (tests_of_good labels in_profile k good));
        long = record_long 2 (key_body k) size;
        behind = record_behind 2 (key_body k) size;
        read = λ rest. ap (λ (y : Key). y ∷ []) (same rest);
      }
    where
      size : 4 + length (key_body k) < 65536
      size = omega (arith, profile_body_size labels k good)

      same : (rest : List ℕ) → key_in (record_body (record_bytes 2 (key_body k) ++ rest)) ≡ k
      same rest = ap key_in (written_body 2 (key_body k) rest size) ∙ key_in_read k

  question_walked_written : (k : Key) → GoodKey labels in_profile k
      → question_walked labels (key_bytes k) ≡ record { number = 0; at = 1; state = k ∷ [] }
  unfolding question_walked next_key flatten
  question_walked_written k good =
      ap (question_walked labels) (sym (append-nil (key_bytes k)))
      ∙ walk_written_all (question_tests labels) next_key key_bytes (k ∷ []) (one_read (key_reads k good) no_more)

  pub question_written_sound : (k : Key) → GoodKey labels in_profile k → question_refusal labels (key_bytes k) ≡ sound
  unfolding question_refusal first_refusal
  question_written_sound k good =
      let some_bytes : 0 < length (key_bytes k) = (key_reads k good).some in
      rw (question_walked_written k good, some_empty (key_bytes k) some_bytes)

  pub question_in_written : (k : Key) → GoodKey labels in_profile k → question_in (key_bytes k) ≡ k
  unfolding question_in key_bytes
  question_in_written k good =
      let size : 4 + length (key_body k) < 65536 = omega (arith, profile_body_size labels k good) in
      ap (λ (l : List ℕ). key_in (record_body l)) (sym (append-nil (record_bytes 2 (key_body k))))
      ∙ (ap key_in (written_body 2 (key_body k) [] size) ∙ key_in_read k)
