-- What the search finds over an accepted question and an accepted tree, said of the operations: one law for each return.
use Prim.Native.Nat.{ℕ, zero, suc, ◌+◌, ◌≤◌, ◌<◌}
use Rattle.std.specs.Prelude.{◌≡◌, refl, Bool, Option, Some, None, Result, Ok, Err, ok_or, length, take, get_or}
use Rattle.std.proofs.Math.Path.{sym, ap, subst}
use Rattle.std.proofs.Common.{◌∙◌, inl, inr, arith}
use mathlib.Core.List.{List, [], ◌∷◌}
use Rattle.std.proofs.Math.Option.{some, some-injective}
use Rattle.std.proofs.Math.Seq.{take-length}
use Rattle.std.proofs.Math.ListN.{get_elem?}
use Rattle.meaning.specs.Limits.{in_profile}
use Rattle.meaning.specs.Lists.{Each}
use Rattle.meaning.specs.Lists.Each.{end, also}
use Rattle.meaning.specs.Paths.{Label, Class, class_of, simple}
use Rattle.meaning.specs.Trees.{Table, table_of}
use Rattle.meaning.specs.Keys.{Key, Breaks, Keeps, FirstWitness}
use Rattle.meaning.specs.Records.{record_body, record_kind, key_in}
use Rattle.meaning.specs.Refusals.{first_entry, nodes_in, question_in}
use Rattle.meaning.specs.Refusals
use Rattle.meaning.specs.Operations.{tree_refusals, TestsTree, ChecksCounterexample, refused_by, broken_by, second_in, labels_in, keys_in, records_from, tree_in, KeepsIn, FirstIn}
use Rattle.meaning.specs.Operations.CounterexampleJudged.{breaks_key, keeps_question, refutes}
use Rattle.read_record.specs.Classes.{Tabled, class_by}
use Rattle.theory_lists.specs.Bools.{each_every}
use Rattle.theory_paths.specs.Good
use Rattle.theory_lists.specs.Lists.{get_or_mem}
use Rattle.theory_answers.specs.Refusing.{unless_sound, sound_number}
use Rattle.theory_records.specs.Heads.{Whole}
use Rattle.theory_records.specs.Encodings.{ends_key}
use Rattle.theory_records.specs.Bodies.{records_add}
use Rattle.theory_records.specs.Profiles.{accepted_labels}
use Rattle.theory_records.specs.Places.{KeyPlace, key_place}
use Rattle.theory_records.specs.Questions.{question_accepts}
use Rattle.tree_table.specs.Files.{class_same, file_table_lem, tree_bytes}
use Rattle.op_answers.specs.declared.Refusal.{Refusal}
use Rattle.op_answers.specs.declared.Witness.{Witness}
use Rattle.op_answers.specs.declared.Countered.{Countered}
use Rattle.op_answers.specs.declared.Countered.TheVariants as N
use Rattle.op_answers.specs.Cases.{meant, numbers_of, keeping_answer, countering_answer, Padded, KeepingPadded, CounteringPadded}
use Rattle.read_inputs.specs.Accepted.{GivenProfile}
use Rattle.tree_table.specs.FileTable.{file_table, TreeBytes}
use Rattle.tree_sorted.specs.GoodKey.{GoodKey}
use Rattle.tree_rows.specs.declared.hung.Hung as lists
use Rattle.op_accept.specs.Taken.{ProfileStops, AcceptedIn, Tables, ready_in, profile_stops}
use Rattle.op_tree_inputs.specs.Inputs.{Passes, BothSay, none_refuses, both_refuse}
use Rattle.tree_witness.specs.Pairs.{FirstShown}
use Rattle.op_tree_keys.specs.ProfileKeys.{key_body_at, KeyBodies, KeyTested, KeptBelow, LowestAt}

-- nothing stands behind the numbers of a witness that is answered
pub padded_none : {r : Refusal} → KeepingPadded (Err r)
padded_none = record { padded = λ w e. cc }

pub padded_asked : (κ : ℕ → Class) (t : Table) (key : Key) (found : Option Witness) → KeyTested κ t key found → KeepingPadded (Ok found)
padded_asked κ t key None keeps = record { padded = λ w e. cc }
padded_asked κ t key (Some w) shows = record { padded = λ v e. let same : w ≡ v = cc in subst Padded same shows.padded }

pub padded_refused : {r : Refusal} → CounteringPadded (Err (N.Refused r))
padded_refused = record { accepts = λ w e. cc; breaks = λ n w e. cc }

pub padded_breaks : {κ : ℕ → Class} {t : Table} {key : Key} {n : ℕ} {w : Witness} → FirstShown κ t key w → CounteringPadded (Err (N.Breaks n w))
padded_breaks {w = w} shown = record { accepts = λ v e. cc; breaks = λ m v e. let same : w ≡ v = cc in subst Padded same shown.padded }

pub padded_accepts : {κ : ℕ → Class} {t : Table} {key : Key} {w : Witness} → FirstShown κ t key w → CounteringPadded (Ok w)
padded_accepts {w = w} shown = record { accepts = λ v e. let same : w ≡ v = cc in subst Padded same shown.padded; breaks = λ m v e. cc }

-- An accepted question and an accepted tree under a class table
pub record BothAccepted (second : Bool) (question tree classes : List ℕ) : Type 0 where
  pub tables : Tables classes
  pub passes : (labels : List Label) → Tabled labels classes → Passes second labels question tree

pub both_accepted : {second : Bool} {question tree classes : List ℕ} → Tables classes → {u : Unit} → BothSay second question tree classes (Ok u)
    → BothAccepted second question tree classes
both_accepted tables says = record { tables = tables; passes = says }

-- a key record that was accepted has the body of a key
key_body : (labels : List Label) (l : List ℕ) → Whole l → record_kind l ≡ 2 → Good.GoodKey labels in_profile (key_in (record_body l))
    → GoodKey (record_body l)
key_body labels l w k g =
    let s = Good.paths_some labels in_profile (key_in (record_body l)) g in
    record {
      reads = ends_key l w k;
      some = omega arith;
      few = Good.paths_within labels in_profile (key_in (record_body l)) g;
      simples = each_every simple (key_in (record_body l)).paths (Good.key_path_simple labels in_profile (key_in (record_body l)) g);
      short = λ i h.
          Good.key_path_length labels in_profile (key_in (record_body l)) g (get_or (key_in (record_body l)).paths i [])
          (get_or_mem (key_in (record_body l)).paths i [] h);
    }

module _ {second : Bool} {question tree classes : List ℕ} (asked : BothAccepted second question tree classes) where
  own : Passes second asked.tables.labels question tree
  own = asked.passes asked.tables.labels asked.tables.tabled

  pub asked_tree : TreeBytes classes tree
  asked_tree = tree_bytes second asked.tables.labels tree own.judged asked.tables.good classes asked.tables.small asked.tables.tabled

  pub asked_key : {body : List ℕ} → body ≡ record_body question → GoodKey body
  unfolding question_in
  asked_key e =
      let a = question_accepts asked.tables.labels question own.asked in
      subst GoodKey (sym e) (key_body asked.tables.labels question a.is_whole a.kind a.good)

  module _ {profile : List ℕ} (ready : AcceptedIn profile classes second) where
    here : Passes (second_in profile) (labels_in profile) question tree
    here = subst (λ (b : Bool). Passes b (labels_in profile) question tree) ready.edition (asked.passes (labels_in profile) ready.ready.tabled)

    same_class : class_by classes ≡ class_of (labels_in profile)
    same_class =
        class_same (labels_in profile) (accepted_labels profile (sound_number ready.ready.accepted)) classes asked.tables.small ready.ready.tabled

    same_table : file_table tree ≡ table_of (nodes_in (second_in profile) (labels_in profile) tree)
    same_table = file_table_lem (second_in profile) (labels_in profile) tree here.judged

    first_in : (key : Key) {numbers : List ℕ} → FirstWitness (class_by classes) (file_table tree) key numbers → FirstIn profile tree key numbers
    unfolding FirstIn tree_in
    first_in key {numbers} w =
        subst (λ (t : Table). FirstWitness (class_of (labels_in profile)) t key numbers) same_table
        (subst (λ (κ : ℕ → Class). FirstWitness κ (file_table tree) key numbers) same_class w)

    keeps_in : (key : Key) → (Breaks (class_by classes) (file_table tree) key → ⊥) → KeepsIn profile tree key
    unfolding KeepsIn Keeps tree_in
    keeps_in key n w =
        n
        (subst (λ (κ : ℕ → Class). Breaks κ (file_table tree) key) (sym same_class)
        (subst (λ (t : Table). Breaks (class_of (labels_in profile)) t key) (sym same_table) w))

    module _ {body : List ℕ} (is_body : body ≡ record_body question) where
      first_of_question : {w : Witness} → FirstShown (class_by classes) (file_table tree) (key_in body) w → FirstIn profile tree (question_in question) (numbers_of w)
      unfolding question_in
      first_of_question {w} shows =
          subst (λ (b : List ℕ). FirstIn profile tree (key_in b) (numbers_of w)) is_body (first_in (key_in body) shows.first)

      keeps_question_lem : (Breaks (class_by classes) (file_table tree) (key_in body) → ⊥) → KeepsIn profile tree (question_in question)
      unfolding question_in
      keeps_question_lem keeps = subst (λ (b : List ℕ). KeepsIn profile tree (key_in b)) is_body (keeps_in (key_in body) keeps)

-- what the test of the question says of the tree
pub tests_asked : {second : Bool} {question tree classes : List ℕ} → BothAccepted second question tree classes → {body : List ℕ} → body ≡ record_body question
    → (found : Option Witness) → KeyTested (class_by classes) (file_table tree) (key_in body) found → (profile : List ℕ) → AcceptedIn profile classes second
    → TestsTree profile question tree (keeping_answer (Ok found))
unfolding TestsTree
tests_asked asked b None keeps profile ready =
    unless_sound _ [] _ _ (none_refuses _ _ ready (here asked ready)) (inl (keeps_question_lem asked ready b keeps, refl))
tests_asked asked b (Some w) shows profile ready =
    unless_sound _ [] _ _ (none_refuses _ _ ready (here asked ready)) (inr (numbers_of w, first_of_question asked ready b shows, refl))

-- what holds of the keys below n, one by one
each_front : {A : Type 0} {Q : A → Type 0} (n : ℕ) (xs : List A) → ((i : ℕ) (x : A) → i < n → get_elem? xs i ≡ some x → Q x) → Each Q (take n xs)
each_front zero xs h = end
each_front (suc n) [] h = end
each_front (suc n) (x ∷ xs) h = also (h zero x (omega arith) refl) (each_front n xs (λ i y l e. h (suc i) y (omega arith) e))

module _ {profile classes : List ℕ} {second : Bool} {labels keys : ℕ} (counted : GivenProfile profile second labels keys classes) {part : List ℕ}
    (is_part : part ≡ records_from labels profile) where
  body_place : (n : ℕ) → key_body_at part n ≡ record_body (records_from (first_entry profile + length (labels_in profile) + n) profile)
  unfolding key_body_at
  body_place n =
      ap record_body (ap (records_from n) is_part ∙ sym (records_add labels n profile) ∙ ap (λ (l : ℕ). records_from (l + n) profile) counted.before_keys)

  place : (n : ℕ) → n < keys → KeyPlace (labels_in profile) profile (keys_in profile) n
  place n h = key_place profile n (let e = counted.key_count in omega arith)

  pub counted_bodies : KeyBodies part keys
  counted_bodies =
      record {
        each = λ n h.
            let p = place n h in
            subst GoodKey (sym (body_place n)) (key_body (labels_in profile) _ p.is_whole p.kind p.good);
      }

  pub key_at : (n : ℕ) → n < keys → get_elem? (keys_in profile) n ≡ some (key_in (key_body_at part n))
  key_at n h = (place n h).is ∙ ap (λ (b : List ℕ). some (key_in b)) (sym (body_place n))

  module _ {question tree : List ℕ} (asked : BothAccepted second question tree classes) where
    front_kept : {r : ℕ} → r ≤ keys → KeptBelow (class_by classes) (file_table tree) part r → Each (KeepsIn profile tree) (take r (keys_in profile))
    front_kept {r} within below =
        each_front r (keys_in profile)
        (λ i key l e.
        subst (KeepsIn profile tree)
        (some-injective (key_in (key_body_at part i)) key (sym (key_at i (omega arith)) ∙ e))
        (keeps_in asked (ready_in counted) (key_in (key_body_at part i)) (below.each i l)))

    all_kept : KeptBelow (class_by classes) (file_table tree) part keys → Each (KeepsIn profile tree) (keys_in profile)
    all_kept below =
        subst (Each (KeepsIn profile tree)) (ap (λ (n : ℕ). take n (keys_in profile)) counted.key_count ∙ take-length (keys_in profile))
        (front_kept (omega arith) below)

    -- 12, with the lowest broken key and its witness
    pub breaks_key_lem : {hung : List lists.Hung} {r q a b : ℕ} → LowestAt (class_by classes) (file_table tree) part keys hung r q a b → (w : Witness)
        → FirstShown (class_by classes) (file_table tree) (key_in (key_body_at part r)) w → ChecksCounterexample profile question tree (broken_by r (numbers_of w))
    unfolding ChecksCounterexample
    breaks_key_lem {r = r} lowest w first =
        let h = lowest.within in
        unless_sound _ [] _ _ (none_refuses _ _ (ready_in counted) (here asked (ready_in counted)))
        (breaks_key r (key_in (key_body_at part r)) (key_at r h) (front_kept (omega arith) lowest.below) (numbers_of w)
        (first_in asked (ready_in counted) _ first.first) refl)

    -- every key of the profile is kept: the question's first witness, or 13
    pub counterexample : KeptBelow (class_by classes) (file_table tree) part keys → {body : List ℕ} → body ≡ record_body question → (found : Option Witness)
        → KeyTested (class_by classes) (file_table tree) (key_in body) found → (r : Refusal) → meant r ≡ record { number = 13; input = 3; place = 0 }
        → {result : Result Witness Countered} → result ≡ ok_or found (N.Refused r)
        → ChecksCounterexample profile question tree (countering_answer result) × CounteringPadded result
    unfolding ChecksCounterexample
    counterexample below is_body None keeps r named e =
        rw e (
          unless_sound _ [] _ _ (none_refuses _ _ (ready_in counted) (here asked (ready_in counted)))
              (keeps_question (all_kept below) (keeps_question_lem asked (ready_in counted) is_body keeps) (ap (λ (x : Refusals.Refusal). refused_by x []) named)),
          padded_refused,
        )
    counterexample below is_body (Some w) shows r named e =
        rw e (
          unless_sound _ [] _ _ (none_refuses _ _ (ready_in counted) (here asked (ready_in counted)))
              (refutes (all_kept below) (numbers_of w) (first_of_question asked (ready_in counted) is_body shows) refl),
          padded_accepts shows,
        )

-- the refusals of either operation
pub tests_profile_stops : {profile : List ℕ} {r : Refusal} → ProfileStops profile r → (question tree : List ℕ) → TestsTree profile question tree (refused_by (meant r) [])
unfolding TestsTree tree_refusals
tests_profile_stops stops question tree = profile_stops _ [] _ stops

pub checks_profile_stops : {profile : List ℕ} {r : Refusal} → ProfileStops profile r → (question tree : List ℕ)
    → ChecksCounterexample profile question tree (refused_by (meant r) [])
unfolding ChecksCounterexample tree_refusals
checks_profile_stops stops question tree = profile_stops _ [] _ stops

module _ {profile classes : List ℕ} {second : Bool} {before keys : ℕ} (g : GivenProfile profile second before keys classes) (question tree : List ℕ) where
  pub tests_both_stop : {r : Refusal} → BothSay second question tree classes (Err r) → TestsTree profile question tree (refused_by (meant r) [])
  unfolding TestsTree
  tests_both_stop says = both_refuse question tree (ready_in g) says _

  pub checks_both_stop : {r : Refusal} → BothSay second question tree classes (Err r) → ChecksCounterexample profile question tree (refused_by (meant r) [])
  unfolding ChecksCounterexample
  checks_both_stop says = both_refuse question tree (ready_in g) says _
