-- One segment more: what its tree comes to under the profile, said of the tally; one law for each return.
use Prim.Native.Nat.{ℕ, zero, suc, ◌<◌, ◌≤◌}
use Rattle.std.specs.Prelude.{◌≡◌, refl, Bool, true, false, Result, Ok, Err, List}
use Rattle.std.proofs.Common.{sym, ◌∙◌, ap, get_or-set_same, get_or-set_other}
use Rattle.std.proofs.Math.Path.{subst}
use Rattle.std.proofs.Math.Option.{some, some-injective}
use native.Mathlib.Omega.{arith}
use Rattle.std.proofs.Math.Decide.{ℕ_discrete}
use lib.ListN.{length, get_or, get_elem?, length-set}
use Rattle.meaning.specs.Paths.{Label, Class, class_of}
use Rattle.meaning.specs.Trees.{Table}
use Rattle.meaning.specs.Keys.{Key, Breaks, Keeps}
use Rattle.meaning.specs.Records.{key_in}
use Rattle.meaning.specs.Refusals.{profile_refusal, tree_refusal}
use Rattle.meaning.specs.Operations.{second_in, labels_in, keys_in, records_from, tree_in, KeepsIn}
use Rattle.meaning.specs.Campaign.{KeptBy, BrokenBy, RefusedBy, BreaksIn}
use Rattle.theory_lists.specs.Logic.{found_below}
use Rattle.theory_paths.specs.Good.{GoodLabels}
use Rattle.theory_campaign.specs.Numbers.{tree_number}
use Rattle.meaning.specs.Tally.{Tally, bump, Bumped, counts, stays, KeptAt, BrokenAt, RefusedAt, Adds}
use Rattle.theory_answers.specs.Refusing.{sound_number, tree_settled, named_refuses, profile_settled}
use Rattle.theory_records.specs.Profiles.{accepted_labels, accepted_few}
use Rattle.read_record.specs.Classes.{Tabled, class_by}
use Rattle.read_judged.specs.Answers.{refusal_of, number_of}
use Rattle.read_judged.specs.declared.Fault.{Fault}
use Rattle.read_inputs.specs.Accepted.{GivenProfile}
use Rattle.op_answers.specs.declared.Refusal.{Refusal}
use Rattle.op_accept.specs.Taken.{ProfileStops, Tables}
use Rattle.tree_table.specs.FileTable.{file_table, TreeBytes}
use Rattle.tree_table.specs.Files.{class_same, file_table_lem, tree_bytes}
use Rattle.op_tree_accepted.specs.BothAccepted.{key_at}
use Rattle.op_tree_keys.specs.ProfileKeys.{key_body_at}
use Rattle.op_tally.specs.Counting.{RefusedMore, KeysMore, Told}
use Rattle.op_campaign.specs.Marks.{Marked}

-- An accepted tree under an accepted profile
pub record Accepted (profile : List ℕ) (before keys : ℕ) (tree classes : List ℕ) : Type 0 where
  pub second : Bool
  pub given : GivenProfile profile second before keys classes
  pub small : length classes ≤ 256
  pub judged : (tree_refusal (second_in profile) (labels_in profile) tree).number ≡ 0

-- a statement that holds exactly where another does counts the same
bumped_as : {Q W : Type 0} {old new : ℕ} → (Q → W) → (W → Q) → Bumped Q old new → Bumped W old new
bumped_as f g (counts q e) = counts (f q) e
bumped_as f g (stays q e) = stays (λ w. q (g w)) e

module _ {profile : List ℕ} {before keys : ℕ} {tree classes : List ℕ} (a : Accepted profile before keys tree classes) where
  good : GoodLabels (labels_in profile)
  good = accepted_labels profile a.given.accepted_profile

  pub accepted_tree : TreeBytes classes tree
  accepted_tree = tree_bytes (second_in profile) (labels_in profile) tree a.judged good classes a.small a.given.tabled

  pub accepted_keys : keys ≤ 64
  accepted_keys = let f = accepted_few profile a.given.accepted_profile in let e = a.given.key_count in omega arith

  breaks_in : (key : Key) → Breaks (class_by classes) (file_table tree) key → BreaksIn profile tree key
  unfolding BreaksIn tree_in
  breaks_in key w =
      subst (λ (t : Table). Breaks (class_of (labels_in profile)) t key) (file_table_lem (second_in profile) (labels_in profile) tree a.judged)
      (subst (λ (κ : ℕ → Class). Breaks κ (file_table tree) key) (class_same (labels_in profile) good classes a.small a.given.tabled) w)

  breaks_out : (key : Key) → BreaksIn profile tree key → Breaks (class_by classes) (file_table tree) key
  unfolding BreaksIn tree_in
  breaks_out key w =
      subst (λ (κ : ℕ → Class). Breaks κ (file_table tree) key) (sym (class_same (labels_in profile) good classes a.small a.given.tabled))
      (subst (λ (t : Table). Breaks (class_of (labels_in profile)) t key) (sym (file_table_lem (second_in profile) (labels_in profile) tree a.judged)) w)

  module _ {part : List ℕ} (is_part : part ≡ records_from before profile) {breaks : List Bool}
      (marked : Marked (class_by classes) (file_table tree) part keys breaks) where
    stands : (n : ℕ) → n < keys → get_elem? (keys_in profile) n ≡ some (key_in (key_body_at part n))
    stands n h = key_at a.given is_part n h

    -- the key of this number, where one is
    key_is : (n : ℕ) (key : Key) → get_elem? (keys_in profile) n ≡ some key → (n < keys) × (key_in (key_body_at part n) ≡ key)
    key_is n key e =
        let l = found_below (keys_in profile) n e in
        let c = a.given.key_count in
        let h : n < keys = omega arith in
        (h, some-injective _ _ (sym (stands n h) ∙ e))

    kept_to : (n : ℕ) → Told keys breaks false n → KeptAt profile tree n
    unfolding Told KeptBy KeepsIn Keeps BreaksIn tree_in
    kept_to n q =
        record {
          sound = a.given.accepted_profile;
          key = key_in (key_body_at part n);
          stands = stands n q.0;
          is = (a.judged, λ w. (marked.each n q.0).no q.1 (breaks_out (key_in (key_body_at part n)) w));
        }

    kept_from : (n : ℕ) → KeptAt profile tree n → Told keys breaks false n
    unfolding Told KeptBy KeepsIn Keeps BreaksIn tree_in
    kept_from n w = (here.0, go (get_or breaks n false) refl)
      where
        here : (n < keys) × (key_in (key_body_at part n) ≡ w.key)
        here = key_is n w.key w.stands

        go : (b : Bool) → get_or breaks n false ≡ b → b ≡ false
        go false e = refl
        go true e =
            absurd
            (w.is.1
            (subst (λ (k : Key). BreaksIn profile tree k) here.1 (breaks_in (key_in (key_body_at part n)) ((marked.each n here.0).yes e))))

    broken_to : (n : ℕ) → Told keys breaks true n → BrokenAt profile tree n
    unfolding Told BrokenBy
    broken_to n q =
        record {
          sound = a.given.accepted_profile;
          key = key_in (key_body_at part n);
          stands = stands n q.0;
          is = (a.judged, breaks_in (key_in (key_body_at part n)) ((marked.each n q.0).yes q.1));
        }

    broken_from : (n : ℕ) → BrokenAt profile tree n → Told keys breaks true n
    unfolding Told BrokenBy
    broken_from n w = (here.0, go (get_or breaks n false) refl)
      where
        here : (n < keys) × (key_in (key_body_at part n) ≡ w.key)
        here = key_is n w.key w.stands

        go : (b : Bool) → get_or breaks n false ≡ b → b ≡ true
        go true e = refl
        go false e =
            absurd
            ((marked.each n here.0).no e
            (breaks_out (key_in (key_body_at part n)) (subst (λ (k : Key). BreaksIn profile tree k) (sym here.1) w.is.1)))

    not_refused : (n : ℕ) → RefusedAt profile tree n → ⊥
    unfolding RefusedBy
    not_refused n w = let p = w.is.0 in let e = w.is.1 in let z = a.judged in omega arith

    -- an accepted tree: each key is kept or broken
    pub adds_keys : {t r : Tally} → KeysMore t keys breaks r → Adds profile tree t r
    adds_keys m =
        record {
          kept = λ n. bumped_as (kept_to n) (kept_from n) (m.kept n);
          broken = λ n. bumped_as (broken_to n) (broken_from n) (m.broken n);
          refused = λ n. stays (not_refused n) (ap (λ (l : List ℕ). get_or l n 0) m.refused);
          unread = m.unread;
          kept_long = m.kept_long;
          broken_long = m.broken_long;
          refused_long = ap length m.refused;
        }

-- What the reader says of the tree
module _ {profile : List ℕ} {second : Bool} {before keys : ℕ} {classes : List ℕ} (given : GivenProfile profile second before keys classes) (tree : List ℕ)
    (judged : Result Unit Fault) (says : (labels : List Label) → Tabled labels classes → refusal_of 3 judged ≡ tree_refusal second labels tree) where
  told : refusal_of 3 judged ≡ tree_refusal (second_in profile) (labels_in profile) tree
  told = says (labels_in profile) given.tabled ∙ ap (λ (b : Bool). tree_refusal b (labels_in profile) tree) given.edition

  pub sound_accepted : {u : Unit} → Tables classes → judged ≡ Ok u → Accepted profile before keys tree classes
  sound_accepted tables e =
      record {
        second = second;
        given = given;
        small = tables.small;
        judged = sound_number (ap (refusal_of 3) (sym e) ∙ told);
      }

  module _ {number : ℕ} {fault : Fault} (e : judged ≡ Err fault) (said : number ≡ number_of fault.kind) where
    is_refused : record { number = number; input = 3; place = fault.place } ≡ tree_refusal (second_in profile) (labels_in profile) tree
    is_refused = ap (λ (n : ℕ). record { number = n; input = 3; place = fault.place }) said ∙ ap (refusal_of 3) (sym e) ∙ told

    number_is : (tree_refusal (second_in profile) (labels_in profile) tree).number ≡ number
    number_is = ap (λ x. x.number) (sym is_refused)

    number_some : number ≡ 0 → ⊥
    number_some z =
        named_refuses (record { number = number; input = 3; place = fault.place }) (tree_refusal (second_in profile) (labels_in profile) tree)
        (tree_settled (second_in profile) (labels_in profile) tree) is_refused (omega arith) (number_is ∙ z)

    pub number_few : number < 20
    number_few = let h = tree_number (second_in profile) (labels_in profile) tree in let q = number_is in omega arith

    -- a refused tree: its number counts, and no key
    pub adds_refused : {t r : Tally} → length t.refused ≡ 20 → RefusedMore t number r → Adds profile tree t r
    adds_refused {t} {r} long m =
        record {
          kept = λ n. stays (no_kept n) (ap (λ (l : List ℕ). get_or l n 0) m.kept);
          broken = λ n. stays (no_broken n) (ap (λ (l : List ℕ). get_or l n 0) m.broken);
          refused = λ n. go n (ℕ_discrete n number);
          unread = m.unread;
          kept_long = ap length m.kept;
          broken_long = ap length m.broken;
          refused_long = ap length m.refused ∙ length-set t.refused number (bump (get_or t.refused number 0));
        }
      where
        no_kept : (n : ℕ) → KeptAt profile tree n → ⊥
        no_kept = unfold KeptBy in λ n w. number_some (sym number_is ∙ w.is.0)

        no_broken : (n : ℕ) → BrokenAt profile tree n → ⊥
        no_broken = unfold BrokenBy in λ n w. number_some (sym number_is ∙ w.is.0)

        here : RefusedAt profile tree number
        here = unfold RefusedBy in record { sound = given.accepted_profile; is = (let s = number_some in positive number s, number_is) }
          where
            positive : (n : ℕ) → (n ≡ 0 → ⊥) → 0 < n
            positive zero h = absurd (h refl)
            positive (suc n) h = omega arith

        elsewhere : (n : ℕ) → (n ≡ number → ⊥) → RefusedAt profile tree n → ⊥
        elsewhere = unfold RefusedBy in λ n other w. other (sym w.is.1 ∙ number_is)

        at : (n : ℕ) → get_or r.refused n 0 ≡ get_or (lib.ListN.set t.refused number (bump (get_or t.refused number 0))) n 0
        at n = ap (λ (l : List ℕ). get_or l n 0) m.refused

        go : (n : ℕ) → Dec (n ≡ number) → Bumped (RefusedAt profile tree n) (get_or t.refused n 0) (get_or r.refused n 0)
        go n (yes z) =
            subst (λ (k : ℕ). Bumped (RefusedAt profile tree k) (get_or t.refused k 0) (get_or r.refused k 0)) (sym z)
            (counts here (at number ∙ get_or-set_same t.refused number (bump (get_or t.refused number 0)) 0 (let f = number_few in omega arith)))
        go n (no z) = stays (elsewhere n z) (at n ∙ get_or-set_other t.refused number n (bump (get_or t.refused number 0)) 0 z)

-- a refused profile changes nothing
pub adds_nothing : {profile : List ℕ} {r : Refusal} → ProfileStops profile r → (tree : List ℕ) (t : Tally) → Adds profile tree t t
adds_nothing {profile} s tree t =
    let refuses = named_refuses _ (profile_refusal profile) (profile_settled profile) (sym s.is) s.named in
    record {
      kept = λ n. stays (λ w. refuses w.sound) refl;
      broken = λ n. stays (λ w. refuses w.sound) refl;
      refused = λ n. stays (λ w. refuses w.sound) refl;
      unread = refl;
      kept_long = refl;
      broken_long = refl;
      refused_long = refl;
    }
