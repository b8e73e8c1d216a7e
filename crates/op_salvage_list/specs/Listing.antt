-- One law for each return of the salvage listing: what the walk, the lines and the search found, put together.
use Prim.Native.Nat.{ℕ, zero, suc, ◌*◌, ◌<◌, ◌≤◌}
use Rattle.std.specs.Prelude.{◌≡◌, Bool, cond, Result, Ok, Err, length, take, drop}
use Rattle.std.proofs.Math.Path.{refl, sym, ap, ap₂, subst}
use Rattle.std.proofs.Common.{◌∙◌, arith, drop_of_length-le, length-take-le}
use mathlib.Core.List.{List, [], ◌∷◌, ◌++◌, flatten}
use Rattle.std.proofs.Math.Option.{some, some-injective}
use Rattle.std.proofs.Math.ListN.{get_elem?}
use Rattle.std.proofs.Math.Seq.{take-length}
use Rattle.meaning.specs.Limits.{block_lines}
use Rattle.meaning.specs.Paths.{Label, Class, class_of}
use Rattle.meaning.specs.Trees.{Table, table_of}
use Rattle.meaning.specs.Keys.{Key}
use Rattle.meaning.specs.Records.{key_in}
use Rattle.meaning.specs.Refusals as Table
use Rattle.meaning.specs.Operations.{refused_by, filled, listed, second_in, labels_in, keys_in, records_from}
use Rattle.meaning.specs.Salvage.{salvaged_nodes, salvage_refusal, salvage_refusals, reasons_in, BrokenLines, SalvageListed, block_of, ListsSalvage}
use Rattle.read_record.specs.Classes.{Tabled, class_by}
use Rattle.read_judged.specs.declared.Fault.{Fault}
use Rattle.op_answers.specs.declared.Refusal.{Refusal}
use Rattle.op_answers.specs.declared.Input.TheVariants as I
use Rattle.op_answers.specs.Cases.{meant, outcome_of, used_of}
use Rattle.op_answers.specs.Outcomes.{outcome_refused}
use Rattle.read_inputs.specs.Accepted.{GivenProfile}
use Rattle.theory_salvage.specs.Listed.{salvage_settled}
use Rattle.theory_answers.specs.Refusing.{sound_number, sound_more, sound_end, unless_sound, unless_small, unless_room, unless_refused, answer_large, first_passes, first_named}
use Rattle.theory_records.specs.Bytes.{Bytes}
use Rattle.theory_records.specs.Profiles.{accepted_labels, accepted_few}
use Rattle.theory_salvage.specs.Salvages.{salvaged_good}
use Rattle.tree_table.specs.Files.{class_same, file_table_lem, tree_bytes}
use Rattle.tree_table.specs.FileTable.{file_table, TreeBytes}
use Rattle.read_salvage.specs.Salvaging.{Salvaging, Kept}
use Rattle.read_salvage.specs.Told.{SalvagedInto}
use Rattle.read_salvage.specs.declared.salvage.Passed.{Passed}
use Rattle.write_bytes.specs.Wrote.{wrote_front}
use Rattle.write_salvage.specs.Blocks.{Window, shown, told, dropped_lines, dropped_most}
use Rattle.op_accept.specs.Taken.{ProfileStops, Tables, named_input, profile_stops}
use Rattle.op_tree_keys.specs.ProfileKeys.{key_body_at}
use Rattle.op_tree_accepted.specs.BothAccepted.{key_at}
use Rattle.op_salvage_keys.specs.Broken.{keys_to, KeysTold}

-- The first line of block k, where there are no more than twelve blocks
pub record Starts (start k : ℕ) : Type 0 where
  pub low : start ≤ 12288
  pub same : (lines : List (List ℕ)) → length lines ≤ 12288 → shown start lines ≡ take block_lines (drop (block_lines * k) lines)

pub starts_at : (k : ℕ) → k < 12 → Starts (1024 * k) k
unfolding shown
starts_at k h = record { low = omega arith; same = λ lines l. refl }

pub starts_past : (k : ℕ) → 12 ≤ k → Starts 12288 k
unfolding shown
starts_past k h =
    record {
      low = omega arith;
      same = λ lines l. ap (take block_lines) (drop_of_length-le lines {i = 12288} (omega arith) ∙ sym (drop_of_length-le lines {i = block_lines * k} (omega arith)));
    }

-- the keys one by one are the profile's
take_one : {A : Type 0} (n : ℕ) (l : List A) (x : A) → get_elem? l n ≡ some x → take (suc n) l ≡ take n l ++ (x ∷ [])
take_one zero [] x e = let z : ◌≡◌ {A = ℕ} 0 1 = cc in absurd (omega arith)
take_one zero (y ∷ l) x e = ap (λ (z : _). z ∷ []) (some-injective y x e)
take_one (suc n) [] x e = let z : ◌≡◌ {A = ℕ} 0 1 = cc in absurd (omega arith)
take_one (suc n) (y ∷ l) x e = ap (λ (m : List _). y ∷ m) (take_one n l x e)

module _ {profile classes : List ℕ} {second : Bool} {before keys : ℕ} (g : GivenProfile profile second before keys classes) {part : List ℕ}
    (is_part : part ≡ records_from before profile) where
  front : (n : ℕ) → n ≤ keys → keys_to part n ≡ take n (keys_in profile)
  unfolding keys_to
  front zero h = refl
  front (suc n) h =
      ap (λ (l : List Key). l ++ (key_in (key_body_at part n) ∷ [])) (front n (omega arith))
      ∙ sym (take_one n (keys_in profile) (key_in (key_body_at part n)) (key_at g is_part n (omega arith)))

  keys_are : keys_to part keys ≡ keys_in profile
  keys_are = front keys (omega arith) ∙ (ap (λ (n : ℕ). take n (keys_in profile)) g.key_count ∙ take-length (keys_in profile))

pub keys_few : {profile classes : List ℕ} {second : Bool} {before keys : ℕ} → GivenProfile profile second before keys classes → keys ≤ 64
keys_few {profile} g = let f = accepted_few profile g.accepted_profile in let c = g.key_count in omega arith

pub small_lists : (profile tree : List ℕ) (k : ℕ) (buffer : List ℕ) (r : Refusal) → length buffer < 65536
    → meant r ≡ record { number = 14; input = 4; place = 0 } → ListsSalvage profile tree k buffer (refused_by (meant r) buffer)
unfolding ListsSalvage salvage_refusals
small_lists profile tree k buffer r h e =
    subst (λ (x : Table.Refusal). ListsSalvage profile tree k buffer (refused_by x buffer)) (sym e) (unless_small _ buffer _ h)

pub profile_lists : {profile : List ℕ} {r : Refusal} → ProfileStops profile r → (tree : List ℕ) (k : ℕ) (buffer : List ℕ) → 65536 ≤ length buffer
    → ListsSalvage profile tree k buffer (refused_by (meant r) buffer)
unfolding ListsSalvage salvage_refusals
profile_lists stops tree k buffer h = unless_room _ buffer _ _ h (profile_stops _ buffer _ stops)

module _ (second : Bool) (classes tree kept reasons : List ℕ) where
  pub tree_stops : (read : Result Passed Fault) → SalvagedInto second classes tree kept reasons read → {r : Refusal} → Err r ≡ outcome_of I.TreeOrProof read
      → (k : ℕ) (buffer : List ℕ) → 65536 ≤ length buffer → (profile : List ℕ) {before keys : ℕ} → GivenProfile profile second before keys classes
      → ListsSalvage profile tree k buffer (refused_by (meant r) buffer)
  unfolding ListsSalvage salvage_refusals
  tree_stops (Ok passed) told e k buffer h profile g = cc
  tree_stops (Err fault) told {r} e k buffer h profile g =
      let i = named_input r in
      let is : meant r ≡ salvage_refusal (second_in profile) (labels_in profile) tree =
      outcome_refused {A = Passed} I.TreeOrProof (Err fault) e ∙ told.refusal (labels_in profile) g.tabled
      ∙ ap (λ (b : Bool). salvage_refusal b (labels_in profile) tree) g.edition in
      unless_refused _ buffer _ (meant r)
      (first_passes _ _ (answer_large buffer h) ∙ (first_passes _ _ g.accepted_profile
      ∙ first_named (meant r) _ _ (salvage_settled (second_in profile) (labels_in profile) tree) is i))
      i

module _ {second : Bool} {classes tree kept reasons : List ℕ} (p : Passed)
    (s : Salvaging second classes tree kept reasons (Ok tt) p.used p.records (cond p.stopped 1 0)) where
  left : (labels : List Label) → Tabled labels classes → Kept second labels tree kept reasons p.used p.records (cond p.stopped 1 0)
  left labels tabled = s.kept labels tabled refl

  none : (labels : List Label) → Tabled labels classes → (salvage_refusal second labels tree).number ≡ 0
  none labels tabled = sound_number (s.refusal labels tabled)

  pub kept_fits : Tables classes → p.used ≤ length kept
  kept_fits t = (left t.labels t.tabled).fits

  pub records_fit : Tables classes → p.records ≤ length reasons
  records_fit t = (left t.labels t.tabled).few

  pub records_most : Tables classes → length (take p.records reasons) ≤ 11264
  records_most t = let k = left t.labels t.tabled in let l = length-take-le p.records reasons k.few in let m = k.counted in omega arith

  module _ (bytes : Bytes tree) where
    accepts : (labels : List Label) (tabled : Tabled labels classes) → (Table.tree_refusal second labels (take p.used kept)).number ≡ 0
    accepts labels tabled =
        ap (λ (l : List ℕ). (Table.tree_refusal second labels l).number) (left labels tabled).bytes ∙ (salvaged_good second labels tree bytes (none labels tabled)).0

    -- what is left is a tree of the class table's
    pub kept_ready : Tables classes → TreeBytes classes (take p.used kept)
    kept_ready t = tree_bytes second t.labels (take p.used kept) (accepts t.labels t.tabled) t.good classes t.small t.tabled

    table_is : (labels : List Label) → Tabled labels classes → file_table (take p.used kept) ≡ table_of (salvaged_nodes second labels tree)
    table_is labels tabled =
        file_table_lem second labels (take p.used kept) (accepts labels tabled)
        ∙ (ap (λ (l : List ℕ). table_of (Table.nodes_in second labels l)) (left labels tabled).bytes
        ∙ ap table_of (salvaged_good second labels tree bytes (none labels tabled)).1)

    reasons_are : (labels : List Label) → Tabled labels classes → told (take p.records reasons) (cond p.stopped 1 0) ≡ reasons_in second labels tree
    unfolding told reasons_in
    reasons_are labels tabled =
        let k = left labels tabled in
        ap₂ told k.told k.ended

    module _ (tables : Tables classes) {part buffer mid end : List ℕ} {keys start k at count next count' : ℕ} (room : 65536 ≤ length buffer)
        (starts : Starts start k) (w : Window buffer mid start (dropped_lines (told (take p.records reasons) (cond p.stopped 1 0))) at count 0)
        (t : KeysTold (class_by classes) (file_table (take p.used kept)) part keys mid end start at count next count') (profile : List ℕ) (before : ℕ)
        (g : GivenProfile profile second before keys classes) (is_part : part ≡ records_from before profile) where
      lines : List (List ℕ)
      lines = dropped_lines (told (take p.records reasons) (cond p.stopped 1 0)) ++ t.broken

      window : Window buffer end start lines next count' (217 * keys)
      unfolding lines
      window = t.goes buffer _ w

      few : length lines ≤ 12288
      few =
          let c = window.counted in
          let a = t.counts in
          let f = keys_few g in
          let l = records_most tables in
          let m = dropped_most (take p.records reasons) p.stopped w in
          omega arith

      listed_so : SalvageListed second (labels_in profile) (keys_in profile) tree lines
      unfolding lines dropped_lines
      listed_so =
          let labels = labels_in profile in
          record {
            broken = t.broken;
            judged = subst (λ (ks : List Key). BrokenLines (class_of labels) (table_of (salvaged_nodes second labels tree)) 0 ks t.broken) (keys_are g is_part)
                (subst (λ (x : Table). BrokenLines (class_of labels) x 0 (keys_to part keys) t.broken) (table_is labels g.tabled)
                (subst (λ (κ : ℕ → Class). BrokenLines κ (file_table (take p.used kept)) 0 (keys_to part keys) t.broken)
                (class_same labels (accepted_labels profile g.accepted_profile) classes tables.small g.tabled) t.judged));
            are = ap (λ (rs : List ℕ). dropped_lines rs ++ t.broken) (reasons_are labels g.tabled);
          }

      block_is : used_of listed next end ≡ filled listed (block_of lines k) buffer
      unfolding filled block_of
      block_is =
          let v = wrote_front window.wrote in
          ap₂ (λ (n : ℕ) (l : List ℕ). used_of listed n l) v.0 v.1
          ∙ ap (λ (l : List (List ℕ)). filled listed (flatten l) buffer) (starts.same lines few)

      pub block_lists : ListsSalvage profile tree k buffer (used_of listed next end)
      unfolding ListsSalvage salvage_refusals
      block_lists =
          let refused = ap (λ (b : Bool). (salvage_refusal b (labels_in profile) tree).number) (sym g.edition) ∙ none (labels_in profile) g.tabled in
          unless_sound _ buffer _ _
          (sound_more _ _ (answer_large buffer room) (sound_more _ _ g.accepted_profile (sound_more _ _ refused sound_end)))
          (lines, subst (λ (b : Bool). SalvageListed b (labels_in profile) (keys_in profile) tree lines) g.edition listed_so, block_is)
