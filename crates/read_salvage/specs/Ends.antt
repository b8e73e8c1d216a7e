-- Where the loop begins and where it ends: what its buffers say of the whole file.
use Rattle.std.specs.Prelude.{ℕ, ◌+◌, ◌*◌, ◌≤◌, ◌<◌, ◌≡◌, Bool, not, Result, Ok, length}
use Rattle.std.proofs.Math.Path.{refl, ap}
use Rattle.std.proofs.Common.{sym, subst, ◌∙◌, lt-ltb, le-ltb}
use Rattle.std.proofs.Math.Bool.{true, false}
use mathlib.Core.List.{List, [], ◌∷◌, map, flatten}
use native.Mathlib.Omega.{arith}
use Rattle.std.proofs.lemmas.Bool.{not-true}
use Rattle.std.proofs.Math.ListN.{take}
use Rattle.meaning.specs.Lists.{end, is_empty, numbers}
use Rattle.meaning.specs.Paths.{Label}
use Rattle.meaning.specs.Trees.{Node}
use Rattle.meaning.specs.Records.{node_bytes, value_bytes}
use Rattle.meaning.specs.Refusals.{Refusal, Walked, sound, walk, first_of, first_refusal, oversize, whole, node_kind_in, tree_limit, tree_tests}
use Rattle.meaning.specs.Salvage.{Salvaged, nothing_yet, salvage_next, salvage_tests, salvage_walked, salvaged_nodes, salvaged_tree, salvage_refusal}
use Rattle.read_record.specs.Classes.{Tabled}
use Rattle.read_judged.specs.declared.Fault.{Fault}
use Rattle.read_judged.specs.Answers.{refusal_of}
use Rattle.theory_records.specs.Bytes.{Bytes}
use Rattle.theory_records.specs.Tests.{first_holds, never, not_fails}
use Rattle.theory_records.specs.Encodings.{IsNodeKind}
use Rattle.theory_records.specs.Judged.{node_accepted}
use Rattle.theory_records.specs.TreeFiles.{stride, kind_in, tree_none}
use Rattle.theory_records.specs.Walks.{walk_stop, walk_end}
use Rattle.theory_salvage.specs.Salvages.{Zeros, salvage_none, tests_pass, whole_holds, limit_nodes}
use Rattle.theory_salvage.specs.Rootless.{no_root}
use Rattle.read_tree.specs.Nodes.{node_tests_by}
use Rattle.read_tree.specs.Walks.{tests_agree}
use Rattle.read_salvage.specs.Loop.{Loop, loop_fits, loop_most, loop_used}
use Rattle.read_salvage.specs.Salvaging.{Salvaging}

-- What the loop is given: a file of a size, whose record 0 is a valid root
pub record Begins (second : Bool) (kind : ℕ) (classes tree : List ℕ) : Type 0 where
  pub in_file : kind ≡ node_kind_in tree
  pub size : length tree ≤ stride kind * 4096
  pub root : (labels : List Label) → Tabled labels classes → first_of (tree_tests second kind labels [] tree) ≡ 0

pub loop_start : {second : Bool} {kind : ℕ} {classes tree out places reasons : List ℕ} → Begins second kind classes tree → Bytes tree → 45056 ≤ length out
    → length places ≡ 11264 → length reasons ≡ 11264 → Loop second kind classes tree out places reasons 0 0 tree
loop_start {second} {kind} {classes} {tree} {out} {places} {reasons} begins small room many listed =
    record {
      is_node = subst IsNodeKind (sym begins.in_file) (kind_in tree);
      size = begins.size;
      room = omega arith;
      four = omega arith;
      outs = room;
      numbers = many;
      listed = listed;
      going =
          λ labels tabled.
          let a = node_accepted second kind labels [] tree (begins.root labels tabled) in
          record {
            state = nothing_yet;
            walks = refl;
            here = salvage_none second kind labels tree small begins.size;
            counted = refl;
            holds = none (stride kind);
            placed = refl;
            told = refl;
            root = λ z.
                record {
                  is_whole = whole_holds tree a.is_whole;
                  kept = tests_pass second labels kind [] nothing_yet tree (record { are = refl; places = no_numbers; none = unfold Zeros in end }) a.is_kind a.good a.once;
                };
            some = λ z. absurd (never (is_empty nothing_yet.places) (unfold is_empty in refl) z);
          };
    }
  where
    none : (n : ℕ) → take (n * 0) out ≡ flatten (map (node_bytes kind) [])
    none n = unfold flatten in ap (λ (k : ℕ). take k out) (let q : n * 0 ≡ 0 = omega arith in q)

    no_numbers : [] ≡ numbers (length {A = Node} []) 0
    no_numbers = unfold numbers in refl

-- the file's own refusal: there is none
sound_by : (second : Bool) (labels : List Label) (tree : List ℕ) → length tree ≤ tree_limit (node_kind_in tree) → is_empty (salvaged_nodes second labels tree) ≡ false
    → sound ≡ salvage_refusal second labels tree
unfolding salvage_refusal first_refusal oversize
sound_by second labels tree within some = rw (le-ltb (tree_limit (node_kind_in tree)) (length tree) within, some)

module _ {second : Bool} {kind : ℕ} {classes tree out places reasons : List ℕ} {nodes records : ℕ} {rest : List ℕ}
    (begins : Begins second kind classes tree) (loop : Loop second kind classes tree out places reasons nodes records rest) where
  walked_as : (labels : List Label) → salvage_walked second labels tree ≡ walk salvage_tests (salvage_next second kind labels) 0 0 nothing_yet tree
  unfolding salvage_walked
  walked_as labels = ap (λ (k : ℕ). walk salvage_tests (salvage_next second k labels) 0 0 nothing_yet tree) (sym begins.in_file)

  finish : (stopped : ℕ) → stopped ≤ 1
      → ((labels : List Label) (tabled : Tabled labels classes)
      → walk salvage_tests (salvage_next second kind labels) 0 records (loop.going labels tabled).state rest
      ≡ record { number = stopped; at = records; state = (loop.going labels tabled).state })
      → whole rest ≡ false → {w : ℕ} → w ≡ 7 + value_bytes kind → Salvaging second classes tree out reasons (Ok tt) (w * nodes) records stopped
  finish stopped low ends torn {w} told =
      record {
        refusal = λ labels tabled. sound_by second labels tree within (some labels tabled);
        kept = λ labels tabled z.
            let g = loop.going labels tabled in
            let is = walked labels tabled in
            record {
              bytes = ap (λ (m : ℕ). take m out) used ∙ (g.holds ∙ nodes_are labels tabled);
              fits = let f = loop_fits loop in let e = used in omega arith;
              most = loop_used loop told;
              told = g.told ∙ sym (ap (λ (x : Walked Salvaged). x.state.reasons) is);
              few = let a = (loop_most loop).0 in let l = loop.listed in omega arith;
              counted = (loop_most loop).0;
              ended = sym (ap (λ (x : Walked Salvaged). x.number) is);
              one = low;
            };
      }
    where
      used : w * nodes ≡ stride kind * nodes
      used = ap (λ (m : ℕ). m * nodes) (told ∙ (unfold stride in refl))

      within : length tree ≤ tree_limit (node_kind_in tree)
      within = subst (λ (k : ℕ). length tree ≤ tree_limit k) begins.in_file (subst (λ (k : ℕ). length tree ≤ k) (sym (limit_nodes kind)) begins.size)

      walked : (labels : List Label) (tabled : Tabled labels classes)
          → salvage_walked second labels tree ≡ record { number = stopped; at = records; state = (loop.going labels tabled).state }
      walked labels tabled = walked_as labels ∙ (sym (loop.going labels tabled).walks ∙ ends labels tabled)

      nodes_are : (labels : List Label) (tabled : Tabled labels classes) → flatten (map (node_bytes kind) (loop.going labels tabled).state.nodes) ≡ salvaged_tree second labels tree
      nodes_are labels tabled =
          unfold salvaged_tree salvaged_nodes in
          (ap (λ (x : Walked Salvaged). flatten (map (node_bytes kind) x.state.nodes)) (sym (walked labels tabled))
          ∙ ap (λ (k : ℕ). flatten (map (node_bytes k) (salvage_walked second labels tree).state.nodes)) begins.in_file)

      some : (labels : List Label) (tabled : Tabled labels classes) → is_empty (salvaged_nodes second labels tree) ≡ false
      some labels tabled =
          unfold salvaged_nodes in
          (ap (λ (x : Walked Salvaged). is_empty x.state.nodes) (walked labels tabled) ∙ go (is_empty (loop.going labels tabled).state.places) refl)
        where
          go : (b : Bool) → is_empty (loop.going labels tabled).state.places ≡ b → is_empty (loop.going labels tabled).state.nodes ≡ false
          go true z = absurd (never (whole rest) ((loop.going labels tabled).root z).is_whole torn)
          go false z = (loop.going labels tabled).some z

  -- nothing is left
  pub loop_done : length rest ≤ 0 → {w : ℕ} → w ≡ 7 + value_bytes kind → Salvaging second classes tree out reasons (Ok tt) (w * nodes) records 0
  loop_done h = finish 0 (omega arith) (λ labels tabled. ended rest h labels (loop.going labels tabled).state) (torn rest h)
    where
      ended : (l : List ℕ) → length l ≤ 0 → (labels : List Label) (s : Salvaged)
          → walk salvage_tests (salvage_next second kind labels) 0 records s l ≡ record { number = 0; at = records; state = s }
      ended [] h labels s = walk_end salvage_tests (salvage_next second kind labels) records s
      ended (b ∷ l) h labels s = absurd (omega arith)

      torn : (l : List ℕ) → length l ≤ 0 → whole l ≡ false
      torn [] h = unfold whole in refl
      torn (b ∷ l) h = absurd (omega arith)

  -- "stops at the first fault of number 1"
  pub loop_torn : 0 < length rest → {b : Bool} → b ≡ whole rest → not b ≡ true → {w : ℕ} → w ≡ 7 + value_bytes kind
      → Salvaging second classes tree out reasons (Ok tt) (w * nodes) records 1
  loop_torn h is_whole t =
      let torn : whole rest ≡ false = sym is_whole ∙ not-true _ t in
      finish 1 (omega arith)
      (λ labels tabled.
      walk_stop salvage_tests (salvage_next second kind labels) records 0 (loop.going labels tabled).state rest h
      (stop (loop.going labels tabled).state torn))
      torn
    where
      stop : (s : Salvaged) → whole rest ≡ false → first_of (salvage_tests s rest) ≡ 1
      stop s e = unfold salvage_tests in first_holds 1 [] (not_fails e)

-- A refused file
refused_salvaging : {second : Bool} {classes tree : List ℕ} {out reasons : List ℕ} (judged : Result Unit Fault) (r : Refusal) → refusal_of 3 judged ≡ r → (r.number ≡ 0 → ⊥)
    → ((labels : List Label) → Tabled labels classes → r ≡ salvage_refusal second labels tree) → (used records stopped : ℕ)
    → Salvaging second classes tree out reasons judged used records stopped
refused_salvaging judged r e some says used records stopped =
    record { refusal = λ labels tabled. e ∙ says labels tabled; kept = λ labels tabled z. absurd (some (sym (ap (λ (x : Refusal). x.number) e) ∙ z)) }

-- "A file over its size gives 7"
pub salvage_over : {second : Bool} {classes tree out reasons : List ℕ} {kind w : ℕ} → kind ≡ node_kind_in tree → w ≡ 7 + value_bytes kind → w * 4096 < length tree
    → (judged : Result Unit Fault) → refusal_of 3 judged ≡ record { number = 7; input = 3; place = 0 } → (used records stopped : ℕ)
    → Salvaging second classes tree out reasons judged used records stopped
salvage_over {second} {classes} {tree} {kind = kind} {w} in_file told h judged e =
    refused_salvaging judged (record { number = 7; input = 3; place = 0 }) e (λ z. omega arith) (λ labels tabled. says labels)
  where
    over : tree_limit (node_kind_in tree) < length tree
    over =
        subst (λ (k : ℕ). tree_limit k < length tree) in_file
        (subst (λ (k : ℕ). k < length tree) (sym (limit_nodes kind)) (subst (λ (k : ℕ). k * 4096 < length tree) (told ∙ (unfold stride in refl)) h))

    says : (labels : List Label) → record { number = 7; input = 3; place = 0 } ≡ salvage_refusal second labels tree
    says labels = unfold salvage_refusal first_refusal oversize in (rw (lt-ltb (tree_limit (node_kind_in tree)) (length tree) over))

-- record 0 judged by the bytes is judged as by the labels
module _ (second : Bool) (classes tree : List ℕ) {kind : ℕ} (in_file : kind ≡ node_kind_in tree) (small : Bytes tree) {w : ℕ} (told : w ≡ 7 + value_bytes kind)
    (within : length tree ≤ w * 4096) {r : ℕ} (given : r ≡ first_of (node_tests_by second kind classes tree 0 tree)) where
  root_tests : (labels : List Label) → Tabled labels classes → r ≡ first_of (tree_tests second kind labels [] tree)
  root_tests labels tabled = given ∙ tests_agree tabled small (tree_none second kind labels tree)

  fits : length tree ≤ stride kind * 4096
  fits = subst (λ (k : ℕ). length tree ≤ k * 4096) (told ∙ (unfold stride in refl)) within

  pub salvage_begins : r ≡ 0 → Begins second kind classes tree
  salvage_begins e = record { in_file = in_file; size = fits; root = λ labels tabled. sym (root_tests labels tabled) ∙ e }

  -- "one without a valid node 0 gives 8"
  pub salvage_rootless : (r ≡ 0 → ⊥) → {out reasons : List ℕ} (judged : Result Unit Fault) → refusal_of 3 judged ≡ record { number = 8; input = 3; place = 0 } → (used records stopped : ℕ)
      → Salvaging second classes tree out reasons judged used records stopped
  salvage_rootless bad judged e = refused_salvaging judged (record { number = 8; input = 3; place = 0 }) e (λ z. omega arith) says
    where
      nothing : (labels : List Label) → Tabled labels classes → salvaged_nodes second labels tree ≡ []
      nothing labels tabled =
          no_root second labels tree (λ z. bad (root_tests labels tabled ∙ subst (λ (k : ℕ). first_of (tree_tests second k labels [] tree) ≡ 0) (sym in_file) z))

      limit : length tree ≤ tree_limit (node_kind_in tree)
      limit = subst (λ (k : ℕ). length tree ≤ tree_limit k) in_file (subst (λ (k : ℕ). length tree ≤ k) (sym (limit_nodes kind)) fits)

      says : (labels : List Label) → Tabled labels classes → record { number = 8; input = 3; place = 0 } ≡ salvage_refusal second labels tree
      says labels tabled =
          unfold salvage_refusal first_refusal oversize is_empty in (rw (le-ltb (tree_limit (node_kind_in tree)) (length tree) limit, nothing labels tabled))
