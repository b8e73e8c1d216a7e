-- Where what was read stands: line i of a proof is record i, key i of a profile is the record after the labels and i keys.
use Rattle.std.specs.Prelude.{ℕ, zero, suc, ◌+◌, ◌≤◌, ◌<◌, ◌≡◌, refl, List, [], ◌∷◌, ◌++◌, length, drop}
use Rattle.std.proofs.Common.{sym, subst, ap, ◌∙◌, ⊎_elim, arith, eq-or-lt_of_le}
use Rattle.std.proofs.Math.Option.{some}
use Rattle.std.proofs.Math.ListN.{get_elem?}
use Rattle.meaning.specs.Limits.{in_profile, in_proof}
use Rattle.meaning.specs.Paths.{Label}
use Rattle.meaning.specs.Keys.{Key}
use Rattle.meaning.specs.Rules.{Line}
use Rattle.meaning.specs.Records.{record_length, record_kind, record_body, key_in, read_line}
use Rattle.meaning.specs.Refusals.{first_of, first_entry, profile_in, line_tests, proof_walked}
use Rattle.meaning.specs.Operations.{records_from, labels_in, keys_in}
use Rattle.theory_lists.specs.Bools.{Each-nth}
use Rattle.theory_paths.specs.Good.{GoodKey}
use Rattle.theory_records.specs.Walks.{walk_keeps}
use Rattle.theory_records.specs.Heads.{Whole}
use Rattle.theory_records.specs.Judged.{line_accepted}
use Rattle.theory_records.specs.Profiles.{length_more, good_at_stop}
use Rattle.theory_records.specs.Questions.{lines_long}
use Rattle.theory_records.specs.Bodies.{records_next, records_add}
use Rattle.theory_records.specs.KeyPlaces.{KeyRecord, key_at, profile_keys_are, profile_key_records}

pub at_left : {A : Type 0} (xs ys : List A) (i : ℕ) → i < length xs → get_elem? (xs ++ ys) i ≡ get_elem? xs i
at_left [] ys i h = absurd (omega arith)
at_left (x ∷ xs) ys zero h = refl
at_left (x ∷ xs) ys (suc i) h = at_left xs ys i (omega arith)

pub at_seam : {A : Type 0} (xs : List A) (y : A) (ys : List A) → get_elem? (xs ++ (y ∷ ys)) (length xs) ≡ some y
at_seam [] y ys = refl
at_seam (x ∷ xs) y ys = at_seam xs y ys

-- Line i of the lines read
pub record LinePlace (labels : List Label) (bytes : List ℕ) (lines : List Line) (i : ℕ) : Type 0 where
  pub is : get_elem? lines i ≡ some (read_line (record_body (records_from i bytes)))
  pub is_whole : Whole (records_from i bytes)
  pub kind : record_kind (records_from i bytes) ≡ 4
  pub good : GoodKey labels in_proof (read_line (record_body (records_from i bytes))).key

pub record LinesStand (labels : List Label) (bytes : List ℕ) (n : ℕ) (lines : List Line) (rest : List ℕ) : Type 0 where
  pub counted : n ≡ length lines
  pub here : rest ≡ records_from n bytes
  pub each : (i : ℕ) → i < length lines → LinePlace labels bytes lines i

pub lines_stand_more : (labels : List Label) (bytes : List ℕ) (n : ℕ) (lines : List Line) (l : List ℕ) → LinesStand labels bytes n lines l → 0 < length l
    → first_of (line_tests labels lines l) ≡ 0
    → LinesStand labels bytes (suc n) (lines ++ (read_line (record_body l) ∷ [])) (drop (record_length l) l)
lines_stand_more labels bytes n lines l g h e =
    let a = line_accepted labels lines l e in
    let x : Line = read_line (record_body l) in
    let more : length (lines ++ (x ∷ [])) ≡ suc (length lines) = length_more lines x in
    record {
      counted = ap suc g.counted ∙ sym more;
      here = ap (λ (r : List ℕ). drop (record_length r) r) g.here ∙ sym (records_next n bytes);
      each = λ i k.
          ⊎_elim
          (λ (q : i ≡ length lines).
          let there : l ≡ records_from i bytes = g.here ∙ ap (λ (j : ℕ). records_from j bytes) (g.counted ∙ sym q) in
          record {
            is =
                ap (get_elem? (lines ++ (x ∷ []))) q ∙ (at_seam lines x [] ∙ ap (λ (r : List ℕ). some (read_line (record_body r))) there);
            is_whole = subst Whole there a.is_whole;
            kind = subst (λ (r : List ℕ). record_kind r ≡ 4) there a.kind;
            good = subst (λ (r : List ℕ). GoodKey labels in_proof (read_line (record_body r)).key) there a.good;
          })
          (λ (q : i < length lines).
          let old = g.each i q in
          record { is = at_left lines (x ∷ []) i q ∙ old.is; is_whole = old.is_whole; kind = old.kind; good = old.good })
          (eq-or-lt_of_le (at_most i (length (lines ++ (x ∷ []))) (length lines) more k));
    }
  where
    at_most : (i m k : ℕ) → m ≡ suc k → i < m → i ≤ k
    at_most i m k e h = omega arith

pub lines_stand_none : (labels : List Label) (bytes : List ℕ) → LinesStand labels bytes 0 [] bytes
lines_stand_none labels bytes =
    record { counted = refl; here = unfold records_from in refl; each = λ i h. absurd (omega arith) }

pub line_place : (labels : List Label) (bytes : List ℕ) (i : ℕ) → i < length (proof_walked labels bytes).state
    → LinePlace labels bytes (proof_walked labels bytes).state i
unfolding proof_walked
line_place labels bytes i h =
    (walk_keeps (line_tests labels) (λ (lines : List Line) (l : List ℕ). lines ++ (read_line (record_body l) ∷ [])) (LinesStand labels bytes)
    (lines_long labels)
    (lines_stand_more labels bytes)
    0
    []
    bytes
    (lines_stand_none labels bytes)
    ).held.each i h

-- Key i of the keys read, behind the labels
pub record KeyPlace (labels : List Label) (bytes : List ℕ) (keys : List Key) (i : ℕ) : Type 0 where
  pub is : get_elem? keys i ≡ some (key_in (record_body (records_from (first_entry bytes + length labels + i) bytes)))
  pub is_whole : Whole (records_from (first_entry bytes + length labels + i) bytes)
  pub kind : record_kind (records_from (first_entry bytes + length labels + i) bytes) ≡ 2
  pub good : GoodKey labels in_profile (key_in (record_body (records_from (first_entry bytes + length labels + i) bytes)))

-- of the labels and keys read, also of a profile that is refused further on
pub key_place : (bytes : List ℕ) (i : ℕ) → i < length (keys_in bytes) → KeyPlace (labels_in bytes) bytes (keys_in bytes) i
unfolding labels_in keys_in profile_in
key_place bytes i h =
    let before : ℕ = first_entry bytes + length (labels_in bytes) in
    let there : records_from i (records_from before bytes) ≡ records_from (before + i) bytes = sym (records_add before i bytes) in
    let its : KeyRecord (records_from (before + i) bytes) = subst KeyRecord there ((profile_key_records bytes).each i h) in
    let is : get_elem? (keys_in bytes) i ≡ some (key_in (record_body (records_from (before + i) bytes))) =
    ap (λ (keys : List Key). get_elem? keys i) (sym (profile_keys_are bytes))
    ∙ (key_at (length (keys_in bytes)) i (records_from before bytes) h ∙ ap (λ (l : List ℕ). some (key_in (record_body l))) there) in
    record { is = is; is_whole = its.is_whole; kind = its.kind; good = Each-nth i (good_at_stop bytes).keys is }
