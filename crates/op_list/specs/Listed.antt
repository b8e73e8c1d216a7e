-- One law for each return of the listing: what the readers and the writer found, put into the laws of `Listings`.
use Rattle.std.specs.Prelude.{ℕ, ◌≤◌, ◌<◌, ◌≡◌, Bool, Result, Ok, Err, length}
use Rattle.std.proofs.Math.Path.{sym, ap₂, subst}
use Rattle.std.proofs.Common.{◌∙◌, ap}
use mathlib.Core.List.{List}
use Rattle.meaning.specs.Paths.{Label}
use Rattle.meaning.specs.Refusals.{sound, tree_refusal, nodes_in}
use Rattle.meaning.specs.Refusals as Table
use Rattle.meaning.specs.Listing.{block}
use Rattle.meaning.specs.Operations.{Answer, Lists, refused_by, filled, listed, second_in, labels_in}
use Rattle.read_record.specs.Classes.{Tabled, class_by}
use Rattle.read_judged.specs.Answers.{refusal_of}
use Rattle.read_judged.specs.declared.Fault.{Fault}
use Rattle.read_inputs.specs.Accepted.{GivenProfile}
use Rattle.op_answers.specs.declared.Refusal.{Refusal}
use Rattle.op_answers.specs.declared.Input.TheVariants as I
use Rattle.op_answers.specs.Cases.{meant, outcome_of, used_of}
use Rattle.op_answers.specs.Outcomes.{outcome_refused, outcome_fine}
use Rattle.theory_answers.specs.Refusing.{sound_number, unless_room}
use Rattle.theory_records.specs.Profiles.{accepted_labels}
use Rattle.op_list.specs.Listings.{list_small, list_tree, list_block}
use Rattle.tree_table.specs.Files.{class_same, file_table_lem, tree_bytes}
use Rattle.tree_table.specs.FileTable.{file_table, TreeBytes}
use Rattle.write_bytes.specs.Wrote.{Wrote, wrote_front}
use Rattle.write_listing.specs.Lines.{block_of, block_is}
use Rattle.op_accept.specs.Taken.{ProfileStops, named_input, profile_stops, ready_of, tables_of}

pub small_lists : (profile tree : List ℕ) (k : ℕ) (buffer : List ℕ) (r : Refusal) → length buffer < 65536
    → meant r ≡ record { number = 14; input = 4; place = 0 } → Lists profile tree k buffer (refused_by (meant r) buffer)
small_lists profile tree k buffer r h e =
    subst (λ (x : Table.Refusal). Lists profile tree k buffer (refused_by x buffer)) (sym e) (list_small profile tree k buffer h)

pub list_stops : {profile : List ℕ} {r : Refusal} → ProfileStops profile r → (tree : List ℕ) (k : ℕ) (buffer : List ℕ) → 65536 ≤ length buffer
    → Lists profile tree k buffer (refused_by (meant r) buffer)
unfolding Lists
list_stops s tree k buffer h = unless_room _ buffer _ _ h (profile_stops _ buffer _ s)

module _ {profile classes : List ℕ} {second : Bool} {before keys : ℕ} (g : GivenProfile profile second before keys classes) (tree : List ℕ) (judged : Result Unit Fault)
    (says : (labels : List Label) → Tabled labels classes → refusal_of 3 judged ≡ tree_refusal second labels tree) where
  says_in : refusal_of 3 judged ≡ tree_refusal (second_in profile) (labels_in profile) tree
  says_in = says (labels_in profile) g.tabled ∙ ap (λ (b : Bool). tree_refusal b (labels_in profile) tree) g.edition

  pub tree_stops : {r : Refusal} → Err r ≡ outcome_of I.TreeOrProof judged → (k : ℕ) (buffer : List ℕ) → 65536 ≤ length buffer
      → Lists profile tree k buffer (refused_by (meant r) buffer)
  tree_stops {r} e k buffer h =
      list_tree profile tree k buffer h (meant r) (ready_of g).accepted (outcome_refused I.TreeOrProof judged e ∙ says_in) (named_input r)

  module _ {u : Unit} (e : Ok u ≡ outcome_of I.TreeOrProof judged) (size : length classes ≡ 256) where
    -- the tree is one of the class table's
    pub tree_ready : TreeBytes classes tree
    tree_ready =
        let t = tables_of g size in
        tree_bytes second t.labels tree (sound_number (outcome_fine I.TreeOrProof judged e ∙ says t.labels t.tabled)) t.good classes t.small t.tabled

    pub tree_lists : (k : ℕ) {buffer after : List ℕ} {used : ℕ} → 65536 ≤ length buffer → Wrote buffer after 0 (block_of (class_by classes) (file_table tree) k) used
        → Lists profile tree k buffer (used_of listed used after)
    unfolding filled
    tree_lists k {buffer} h wrote =
        let accepted : sound ≡ tree_refusal (second_in profile) (labels_in profile) tree = outcome_fine I.TreeOrProof judged e ∙ says_in in
        let same : block_of (class_by classes) (file_table tree) k ≡ block (labels_in profile) (nodes_in (second_in profile) (labels_in profile) tree) k =
        ap₂ (λ κ t. block_of κ t k)
        (class_same (labels_in profile) (accepted_labels profile g.accepted_profile) classes (tables_of g size).small g.tabled)
        (file_table_lem (second_in profile) (labels_in profile) tree (sound_number accepted))
        ∙ sym (block_is (labels_in profile) (nodes_in (second_in profile) (labels_in profile) tree) k) in
        let w = wrote_front wrote in
        subst (λ (a : Answer). Lists profile tree k buffer a)
        (ap (λ (v : List ℕ). filled listed v buffer) (sym same) ∙ ap₂ (λ (n : ℕ) (b : List ℕ). used_of listed n b) (sym w.0) (sym w.1))
        (list_block profile tree k buffer h (ready_of g).accepted accepted)
