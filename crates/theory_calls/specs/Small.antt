-- Every refusal fits two-byte fields: number, input and record are under 65,536.
use Prim.Native.Nat.{ℕ, zero, suc, ◌+◌, ◌-◌, ◌≤◌, ◌<◌}
use Rattle.std.specs.Prelude.{◌≡◌, Bool, true, false, cond, ◌&&◌, not, eqb, ltb, length, get_or, drop}
use Rattle.std.proofs.Math.Path.{refl}
use Rattle.std.proofs.Common.{ap, eqb-true, length-drop}
use mathlib.Core.List.{List, [], ◌∷◌, ◌++◌}
use native.Mathlib.Omega.{arith}
use Rattle.meaning.specs.Limits
use Rattle.meaning.specs.Limits.{KeyLimits, in_profile}
use Rattle.meaning.specs.Lists.{is_empty}
use Rattle.meaning.specs.Paths.{Label}
use Rattle.meaning.specs.Trees.{Node}
use Rattle.meaning.specs.Keys.{Key}
use Rattle.meaning.specs.Rules.{Line}
use Rattle.meaning.specs.Records.{record_length, record_kind, record_body, key_in, read_node}
use Rattle.meaning.specs.Refusals.{Refusal, Profile, Walked, sound, first_refusal, first_of, walk, key_tests, profile_key_tests, profile_tests, profile_next, profile_walked, profile_refusal, no_profile, first_entry, behind_edition, has_edition, edition_refusal, oversize, question_tests, question_walked, question_refusal, tree_tests, tree_walked, tree_refusal, tree_limit, node_kind_in, line_tests, proof_walked, answer_refusal}
use Rattle.theory_records.specs.Walks.{walk_keeps}
use Rattle.theory_records.specs.Judged.{question_accepted}
use Rattle.theory_records.specs.Profiles.{length_more, within_size}
use Rattle.theory_records.specs.Questions.{question_long}

-- a refusal that fits
pub record Small (r : Refusal) : Type 0 where
  pub number : r.number < 65536
  pub input : r.input < 65536
  pub place : r.place < 65536

-- ---- numbers: none of the tests is numbered over 16

first_under : (n : ℕ) (x : Bool) (ts : List (ℕ × Bool)) → n ≤ 16 → first_of ts ≤ 16 → first_of ((n, x) ∷ ts) ≤ 16
unfolding first_of
first_under n true ts h k = h
first_under n false ts h k = k

none_under : first_of [] ≤ 16
unfolding first_of
none_under = omega arith

key_under : (labels : List Label) (limits : KeyLimits) (k : Key) → first_of (key_tests labels limits k) ≤ 16
unfolding key_tests
key_under labels limits k = first_under 4 _ _ (omega arith) (first_under 5 _ _ (omega arith) (first_under 6 _ _ (omega arith) none_under))

profile_under : (p : Profile) (l : List ℕ) → first_of (profile_tests p l) ≤ 16
unfolding profile_tests profile_key_tests key_tests
profile_under p l =
    first_under 7 _ _ (omega arith) (first_under 1 _ _ (omega arith) (first_under 2 _ _ (omega arith) (go (eqb (record_kind l) Limits.label_kind) _)))
  where
    go : (b x : Bool) → first_of (cond b ((3, x) ∷ []) (profile_key_tests p.labels p.keys (key_in (record_body l)))) ≤ 16
    go true x = first_under 3 _ _ (omega arith) none_under
    go false x =
        first_under 4 _ _ (omega arith)
        (first_under 5 _ _ (omega arith) (first_under 6 _ _ (omega arith) (first_under 15 _ _ (omega arith) none_under)))

question_under : (labels : List Label) (read : List Key) (l : List ℕ) → first_of (question_tests labels read l) ≤ 16
unfolding question_tests
question_under labels read l = first_under 1 _ _ (omega arith) (first_under 2 _ _ (omega arith) (key_under labels in_profile (key_in (record_body l))))

tree_under : (second : Bool) (kind : ℕ) (labels : List Label) (nodes : List Node) (l : List ℕ) → first_of (tree_tests second kind labels nodes l) ≤ 16
unfolding tree_tests
tree_under second kind labels nodes l =
    first_under 7 _ _ (omega arith)
    (first_under 1 _ _ (omega arith)
    (first_under 2 _ _ (omega arith) (first_under 8 _ _ (omega arith) (first_under 16 _ _ (omega arith) none_under))))

line_under : (labels : List Label) (lines : List Line) (l : List ℕ) → first_of (line_tests labels lines l) ≤ 16
unfolding line_tests
line_under labels lines l =
    first_under 7 _ _ (omega arith) (first_under 1 _ _ (omega arith) (first_under 2 _ _ (omega arith) (key_under labels Limits.in_proof _)))

-- ---- records: a walk passes no more of them than there are bytes

module _ {S : Type 0} (tests : S → List ℕ → List (ℕ × Bool)) (next : S → List ℕ → S) (under : (s : S) (l : List ℕ) → first_of (tests s l) ≤ 16) where
  record Stops (n : ℕ) (l : List ℕ) (w : Walked S) : Type 0 where
    pub number : w.number ≤ 16
    pub at : w.at ≤ n + length l

  stops_more : {n m : ℕ} {l k : List ℕ} {w : Walked S} → n + length l ≤ m + length k → Stops n l w → Stops m k w
  stops_more h s = let a = s.at in record { number = s.number; at = omega arith }

  walk_stops : (k n : ℕ) (s : S) (l : List ℕ) → Stops n l (walk tests next k n s l)
  unfolding walk
  walk_stops zero n s [] = record { number = omega arith; at = omega arith }
  walk_stops (suc k) n s [] = record { number = omega arith; at = omega arith }
  walk_stops (suc k) n s (b ∷ l) = stops_more (omega arith) (walk_stops k n s l)
  walk_stops zero n s (b ∷ l) =
      go (first_of (tests s (b ∷ l))) refl (under s (b ∷ l)) (walk_stops (record_length (b ∷ l) - 1) (suc n) (next s (b ∷ l)) l)
    where
      go : (r : ℕ) → first_of (tests s (b ∷ l)) ≡ r → r ≤ 16 → Stops (suc n) l (walk tests next (record_length (b ∷ l) - 1) (suc n) (next s (b ∷ l)) l)
          → Stops n (b ∷ l) (walk tests next 0 n s (b ∷ l))
      go zero e h more = rw (walk, e) (stops_more (omega arith) more)
      go (suc r) e h more = rw (walk, e) (record { number = h; at = omega arith })

-- ---- the refusals of whole inputs, each where those before it do not refuse

pub small_first : (r : Refusal) (rs : List Refusal) → Small r → Small (first_refusal rs) → Small (first_refusal (r ∷ rs))
unfolding first_refusal
small_first r rs here more = go (eqb r.number 0)
  where
    go : (b : Bool) → Small (cond b (first_refusal rs) r)
    go true = more
    go false = here

small_behind : (r : Refusal) (rs : List Refusal) → Small r → (r.number ≡ 0 → Small (first_refusal rs)) → Small (first_refusal (r ∷ rs))
unfolding first_refusal
small_behind r rs here more = go (eqb r.number 0) refl
  where
    go : (b : Bool) → eqb r.number 0 ≡ b → Small (cond b (first_refusal rs) r)
    go true e = more (eqb-true r.number 0 e)
    go false e = here

pub small_sound : Small sound
small_sound = record { number = omega arith; input = omega arith; place = omega arith }

pub small_none : Small (first_refusal [])
unfolding first_refusal
small_none = small_sound

small_cond : (b : Bool) {r s : Refusal} → Small r → Small s → Small (cond b r s)
small_cond true x y = x
small_cond false x y = y

pub small_oversize : (input limit : ℕ) (bytes : List ℕ) → input < 65536 → Small (oversize input limit bytes)
unfolding oversize
small_oversize input limit bytes h =
    small_cond (ltb limit (length bytes)) (record { number = omega arith; input = h; place = omega arith }) small_sound

pub small_answer : (buffer : List ℕ) → Small (answer_refusal buffer)
unfolding answer_refusal
small_answer buffer =
    small_cond (ltb (length buffer) Limits.answer_bytes) (record { number = omega arith; input = omega arith; place = omega arith }) small_sound

pub small_profile : (bytes : List ℕ) → Small (profile_refusal bytes)
unfolding profile_refusal profile_walked edition_refusal first_entry behind_edition
small_profile bytes =
    small_behind _ _ (small_oversize 1 Limits.profile_bytes bytes (omega arith))
    (λ e. small_first _ _ edition (small_first _ _ (walked (within_size 1 Limits.profile_bytes bytes e)) small_none))
  where
    edition : Small (edition_refusal bytes)
    edition =
        small_cond (has_edition bytes && not (eqb (get_or (record_body bytes) 0 0) Limits.second_edition))
        (record { number = omega arith; input = omega arith; place = omega arith }) small_sound

    first : (b : Bool) → cond b 1 0 ≤ 1
    first true = omega arith
    first false = omega arith

    behind : (b : Bool) → length (cond b (drop (record_length bytes) bytes) bytes) ≤ length bytes
    behind true = omega (arith, length-drop (record_length bytes) bytes)
    behind false = omega arith

    walked : length bytes ≤ 16384 → Small (record { number = (profile_walked bytes).number; input = 1; place = (profile_walked bytes).at })
    walked h =
        let w = walk_stops profile_tests profile_next profile_under 0 (first_entry bytes) no_profile (behind_edition bytes) in
        let a = w.at in
        let n = w.number in
        record { number = omega arith; input = omega arith; place = omega (arith, first (has_edition bytes), behind (has_edition bytes)) }

pub small_tree : (second : Bool) (labels : List Label) (bytes : List ℕ) → Small (tree_refusal second labels bytes)
unfolding tree_refusal tree_walked tree_limit
small_tree second labels bytes =
    small_behind _ _ (small_oversize 3 (tree_limit (node_kind_in bytes)) bytes (omega arith))
    (λ e. small_first _ _ (walked (within_size 3 (tree_limit (node_kind_in bytes)) bytes e))
    (small_first _ _ (small_cond (is_empty bytes) (record { number = omega arith; input = omega arith; place = omega arith }) small_sound) small_none))
  where
    limit : (kind : ℕ) → tree_limit kind ≤ 45056
    limit kind = go (eqb kind Limits.wide_kind)
      where
        go : (b : Bool) → cond b Limits.wide_tree_bytes Limits.tree_bytes ≤ 45056
        go true = omega arith
        go false = omega arith

    walked : length bytes ≤ tree_limit (node_kind_in bytes)
        → Small (record { number = (tree_walked second labels bytes).number; input = 3; place = (tree_walked second labels bytes).at })
    walked h =
        let w =
        walk_stops (tree_tests second (node_kind_in bytes) labels) (λ (nodes : List Node) (l : List ℕ). nodes ++ (read_node (record_body l) ∷ []))
        (tree_under second (node_kind_in bytes) labels) 0 0 [] bytes in
        let a = w.at in
        let n = w.number in
        record { number = omega arith; input = omega arith; place = omega (arith, limit (node_kind_in bytes)) }

-- "A question is one key record": no walk passes a second one
record OneAtMost (n : ℕ) (read : List Key) : Type 0 where
  pub counted : n ≡ length read
  pub few : n ≤ 1

one_more : (labels : List Label) (n : ℕ) (read : List Key) (l : List ℕ) → OneAtMost n read → 0 < length l → first_of (question_tests labels read l) ≡ 0
    → OneAtMost (suc n) (read ++ (key_in (record_body l) ∷ []))
one_more labels n read l o h e =
    let none : length read ≡ 0 = ap length (question_accepted labels read l e).alone in
    record { counted = omega (arith, o.counted, length_more read (key_in (record_body l))); few = omega (arith, o.counted) }

pub small_question : (labels : List Label) (bytes : List ℕ) → Small (question_refusal labels bytes)
unfolding question_refusal question_walked
small_question labels bytes =
    small_first _ _ walked
    (small_first _ _ (small_cond (is_empty bytes) (record { number = omega arith; input = omega arith; place = omega arith }) small_sound) small_none)
  where
    next : List Key → List ℕ → List Key
    next read l = read ++ (key_in (record_body l) ∷ [])

    walked : Small (record { number = (question_walked labels bytes).number; input = 2; place = (question_walked labels bytes).at })
    walked =
        let w = (walk_stops (question_tests labels) next (question_under labels) 0 0 [] bytes).number in
        let o =
        (walk_keeps (question_tests labels) next (λ n read rest. OneAtMost n read) (question_long labels) (one_more labels) 0 [] bytes
        (record { counted = refl; few = omega arith })
        ).held.few in
        record { number = omega arith; input = omega arith; place = omega arith }

-- the lines of a proof: the number of the walk
pub proof_number : (labels : List Label) (bytes : List ℕ) → (proof_walked labels bytes).number ≤ 16
unfolding proof_walked
proof_number labels bytes = (walk_stops (line_tests labels) _ (line_under labels) 0 0 [] bytes).number
