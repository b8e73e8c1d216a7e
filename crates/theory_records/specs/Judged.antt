-- What it says that one record is accepted, for each input: document 01, "in one record 7, then 1, 2, 3, 4, 5, 6, 8, 9".
use Rattle.std.specs.Prelude.{ℕ, ◌≤◌, ◌<◌, ◌≡◌, refl, ◌⊎◌, Bool, true, false, cond, ◌&&◌, not, List, [], ◌∷◌, leb, eqb, length}
use Rattle.std.proofs.Common.{◌∙◌, inl, inr, arith, leb-false, le-leb, eqb-true, eq-eqb}
use Rattle.std.proofs.lemmas.Bool.{lt-leb, not-false}
use Rattle.meaning.specs.Limits.{KeyLimits, in_profile, in_proof}
use Rattle.meaning.specs.Lists.{is_empty, every}
use Rattle.meaning.specs.Paths.{Label, class_of, singles}
use Rattle.meaning.specs.Trees.{Node}
use Rattle.meaning.specs.Keys.{Key}
use Rattle.meaning.specs.Rules.{Line}
use Rattle.meaning.specs.Records.{record_kind, record_body, read_label, key_in, read_node, read_line}
use Rattle.meaning.specs.Refusals.{first_of, too_many, whole, good_label, key_tests, key_twice, profile_key_tests, Profile, in_profile_order, profile_tests, question_tests, good_root, good_below, repeated, tree_tests, line_tests}
use Rattle.theory_paths.specs.Good.{GoodKey, good_of_tests}
use Rattle.theory_lists.specs.Bools.{and-false}
use Rattle.theory_records.specs.Tests.{both, either, never, first_none, first_fails, numbered, first_passes, first_both}
use Rattle.theory_records.specs.Heads.{Whole, whole_says}

-- 7 is not given to a record of the counted kind: there is room for it
pub room_says : (kind limit count : ℕ) (l : List ℕ) → 4 ≤ length l → record_kind l ≡ kind → too_many kind limit count l ≡ false → count < limit
unfolding too_many
room_says kind limit count l h k e =
    let head : leb 4 (length l) ≡ true = le-leb 4 (length l) h in
    let same : eqb (record_kind l) kind ≡ true = eq-eqb (record_kind l) kind k in
    leb-false limit count (rw (head, same) at e)

pub room_left : (kind limit count : ℕ) (l : List ℕ) → count < limit → too_many kind limit count l ≡ false
unfolding too_many
room_left kind limit count l h = rw (lt-leb limit count h) (and-false (leb 4 (length l) && eqb (record_kind l) kind))

pub none_empty : {A : Type 0} (l : List A) → length l ≡ 0 → is_empty l ≡ true
unfolding is_empty
none_empty [] e = refl
none_empty (x ∷ l) e = absurd (omega arith)

pub some_empty : {A : Type 0} (l : List A) → 0 < length l → is_empty l ≡ false
unfolding is_empty
some_empty [] h = absurd (omega arith)
some_empty (x ∷ l) h = refl

pub empty_says : {A : Type 0} (l : List A) → is_empty l ≡ true → l ≡ []
unfolding is_empty
empty_says [] e = refl
empty_says (x ∷ l) e = absurd (never false e refl)

-- A label record of a profile
pub record LabelAccepted (p : Profile) (l : List ℕ) : Type 0 where
  pub is_whole : Whole l
  pub kind : record_kind l ≡ 1
  pub before_keys : p.keys ≡ []
  pub good : good_label p.labels (read_label (record_body l)) ≡ true

-- A key record of a profile
pub record KeyRecordAccepted (p : Profile) (l : List ℕ) : Type 0 where
  pub is_whole : Whole l
  pub kind : record_kind l ≡ 2
  pub room : length p.keys < 64
  pub good : GoodKey p.labels in_profile (key_in (record_body l))
  pub new : key_twice p.keys (key_in (record_body l)) ≡ false

-- none of the tests of a key has number 0
key_numbered : (labels : List Label) (limits : KeyLimits) (k : Key) → numbered (key_tests labels limits k) ≡ true
unfolding key_tests numbered every
key_numbered labels limits k = refl

pub profile_accepted : (p : Profile) (l : List ℕ) → first_of (profile_tests p l) ≡ 0 → LabelAccepted p l ⊎ KeyRecordAccepted p l
unfolding profile_tests in_profile_order profile_key_tests
profile_accepted p l e =
    let seven = first_none _ _ _ e in
    let one = first_none _ _ _ seven.1 in
    let two = first_none _ _ _ one.1 in
    let w = whole_says l (not-false _ one.0) in
    go w two.1 seven.0 (either _ _ (not-false _ two.0))
  where
    go : Whole l
        → first_of (cond (eqb (record_kind l) 1) ((3, not (good_label p.labels (read_label (record_body l)))) ∷ [])
        (profile_key_tests p.labels p.keys (key_in (record_body l)))) ≡ 0
        → too_many 2 64 (length p.keys) l ≡ false
        → ((eqb (record_kind l) 1 && is_empty p.keys ≡ true) ⊎ (eqb (record_kind l) 2 ≡ true)) → LabelAccepted p l ⊎ KeyRecordAccepted p l
    go w rest seven (inl k) =
        let parts = both _ _ k in
        inl
        (record {
          is_whole = w;
          kind = eqb-true _ _ parts.0;
          before_keys = empty_says p.keys parts.1;
          good = not-false _ (first_none _ _ _ (rw parts.0 at rest)).0;
        })
    go w rest seven (inr k) =
        let two : record_kind l ≡ 2 = eqb-true _ _ k in
        let tests = first_both _ _ (key_numbered p.labels in_profile (key_in (record_body l))) (rw two at rest) in
        inr
        (record {
          is_whole = w;
          kind = two;
          room = room_says 2 64 (length p.keys) l w.head two seven;
          good = good_of_tests _ _ _ tests.0;
          new = (first_none _ _ _ tests.1).0;
        })

-- A question's record: it is the first
pub record QuestionAccepted (labels : List Label) (read : List Key) (l : List ℕ) : Type 0 where
  pub is_whole : Whole l
  pub kind : record_kind l ≡ 2
  pub alone : read ≡ []
  pub good : GoodKey labels in_profile (key_in (record_body l))

pub question_accepted : (labels : List Label) (read : List Key) (l : List ℕ) → first_of (question_tests labels read l) ≡ 0 → QuestionAccepted labels read l
unfolding question_tests
question_accepted labels read l e =
    let one = first_none _ _ _ e in
    let two = first_none _ _ _ one.1 in
    let parts = both _ _ (not-false _ two.0) in
    record {
      is_whole = whole_says l (not-false _ one.0);
      kind = eqb-true _ _ parts.0;
      alone = empty_says read parts.1;
      good = good_of_tests _ _ _ two.1;
    }

-- A node record of a tree
pub record NodeAccepted (second : Bool) (kind : ℕ) (labels : List Label) (nodes : List Node) (l : List ℕ) : Type 0 where
  pub is_whole : Whole l
  pub is_kind : record_kind l ≡ kind
  pub room : length nodes < 4096
  pub good : cond (is_empty nodes) (good_root (read_node (record_body l))) (good_below labels nodes (read_node (record_body l))) ≡ true
  pub once : repeated (singles second (class_of labels)) nodes (read_node (record_body l)) ≡ false

pub node_accepted : (second : Bool) (kind : ℕ) (labels : List Label) (nodes : List Node) (l : List ℕ) → first_of (tree_tests second kind labels nodes l) ≡ 0
    → NodeAccepted second kind labels nodes l
unfolding tree_tests
node_accepted second kind labels nodes l e =
    let seven = first_none _ _ _ e in
    let one = first_none _ _ _ seven.1 in
    let two = first_none _ _ _ one.1 in
    let eight = first_none _ _ _ two.1 in
    let sixteen = first_none _ _ _ eight.1 in
    let w = whole_says l (not-false _ one.0) in
    let same : record_kind l ≡ kind = eqb-true _ _ (not-false _ two.0) in
    record {
      is_whole = w;
      is_kind = same;
      room = room_says kind 4096 (length nodes) l w.head same seven.0;
      good = not-false _ eight.0;
      once = sixteen.0;
    }

-- A line record of a proof, up to 6
pub record LineAccepted (labels : List Label) (lines : List Line) (l : List ℕ) : Type 0 where
  pub is_whole : Whole l
  pub kind : record_kind l ≡ 4
  pub room : length lines < 256
  pub good : GoodKey labels in_proof (read_line (record_body l)).key

pub line_accepted : (labels : List Label) (lines : List Line) (l : List ℕ) → first_of (line_tests labels lines l) ≡ 0 → LineAccepted labels lines l
unfolding line_tests
line_accepted labels lines l e =
    let seven = first_none _ _ _ e in
    let one = first_none _ _ _ seven.1 in
    let two = first_none _ _ _ one.1 in
    let w = whole_says l (not-false _ one.0) in
    let four : record_kind l ≡ 4 = eqb-true _ _ (not-false _ two.0) in
    record {
      is_whole = w;
      kind = four;
      room = room_says 4 256 (length lines) l w.head four seven.0;
      good = good_of_tests _ _ _ two.1;
    }

-- The other way: what passes each test is accepted
pub profile_label_passes : (p : Profile) (l : List ℕ) → length p.keys ≡ 0 → whole l ≡ true → record_kind l ≡ 1
    → good_label p.labels (read_label (record_body l)) ≡ true → first_of (profile_tests p l) ≡ 0
unfolding profile_tests first_of in_profile_order
profile_label_passes p l none w k good = rw (room_left 2 64 (length p.keys) l (omega arith), w, k, good, none_empty p.keys none)

pub profile_key_passes : (p : Profile) (l : List ℕ) → length p.keys < 64 → whole l ≡ true → record_kind l ≡ 2
    → first_of (key_tests p.labels in_profile (key_in (record_body l))) ≡ 0 → key_twice p.keys (key_in (record_body l)) ≡ false
    → first_of (profile_tests p l) ≡ 0
unfolding profile_tests first_of in_profile_order profile_key_tests
profile_key_passes p l room w k good new =
    rw (room_left 2 64 (length p.keys) l room, w, k)
    (first_passes _ _ (key_numbered p.labels in_profile (key_in (record_body l))) good ∙ first_fails 15 [] new)

pub question_passes : (labels : List Label) (l : List ℕ) → whole l ≡ true → record_kind l ≡ 2
    → first_of (key_tests labels in_profile (key_in (record_body l))) ≡ 0 → first_of (question_tests labels [] l) ≡ 0
unfolding question_tests first_of is_empty
question_passes labels l w k good = rw (w, k) good

pub node_passes : (second : Bool) (kind : ℕ) (labels : List Label) (nodes : List Node) (l : List ℕ) → length nodes < 4096 → whole l ≡ true → record_kind l ≡ kind
    → cond (is_empty nodes) (good_root (read_node (record_body l))) (good_below labels nodes (read_node (record_body l))) ≡ true
    → repeated (singles second (class_of labels)) nodes (read_node (record_body l)) ≡ false → first_of (tree_tests second kind labels nodes l) ≡ 0
unfolding tree_tests first_of
node_passes second kind labels nodes l room w k good once =
    rw (room_left kind 4096 (length nodes) l room, w, eq-eqb (record_kind l) kind k, good, once)

pub line_passes : (labels : List Label) (lines : List Line) (l : List ℕ) → length lines < 256 → whole l ≡ true → record_kind l ≡ 4
    → first_of (key_tests labels in_proof (read_line (record_body l)).key) ≡ 0 → first_of (line_tests labels lines l) ≡ 0
unfolding line_tests first_of
line_passes labels lines l room w k good = rw (room_left 4 256 (length lines) l room, w, k) good
