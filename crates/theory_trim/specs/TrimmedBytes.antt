-- 02, request 10, of bytes: the bytes of a trimmed proof are no more than the proof's, the check accepts them, and trimming them changes nothing; the
-- answer of trimming is determined.
use Prim.Native.Nat.{ℕ, zero, suc, ◌+◌, ◌≤◌, ◌<◌}
use Rattle.std.specs.Prelude.{◌≡◌, Bool}
use Rattle.std.proofs.Math.Path.{refl, sym, ap, subst}
use Rattle.std.proofs.Common.{◌∙◌, take-suc}
use mathlib.Core.List.{List, [], ◌∷◌, ◌++◌, map, flatten}
use Rattle.std.proofs.Math.Option.{some}
use native.Mathlib.Omega.{arith}
use lib.ListN.{length, get_or, take, drop, get_elem?, length-append, length-drop}
use Rattle.meaning.specs.Limits.{in_proof, proof_bytes}
use Rattle.meaning.specs.Lists.{Each}
use Rattle.meaning.specs.Paths.{Label}
use Rattle.meaning.specs.Keys.{Key}
use Rattle.meaning.specs.Rules.{Line, Follows, FollowsIn, shared, rule10, rule0, rule1, rule2, rule3, rule4, rule5, rule6, rule7, rule8, rule9, FollowsBelow, Accepted, line_keys}
use Rattle.meaning.specs.Records.{word_bytes, record_length, record_kind, record_body, record_bytes, read_line, key_in, key_body, line_bytes}
use Rattle.meaning.specs.Refusals.{Refusal, Walked, first_of, line_tests, first_refusal, profile_refusal, question_refusal, question_in, proof_walked}
use Rattle.meaning.specs.Operations.{Answer, Unless, choose, refused_by, plain, accepted, records_from, single_in, labels_in, keys_in, ChecksProof, ProofJudged, unfollowed, faulty, other_end, proved}
use Rattle.meaning.specs.Trimming.{earliest, pointed, with_premises, no_line, line_at, needed, place_in, trimmed_lines, lines_in, trimmed_proof, Trims}
use Rattle.theory_paths.specs.Good.{GoodKey}
use Rattle.theory_lists.specs.Bools.{Each-at}
use Rattle.theory_records.specs.Walks.{walk_keeps}
use Rattle.theory_records.specs.Heads.{Whole, body_length}
use Rattle.theory_records.specs.KeyBodies.{key_in_written}
use Rattle.theory_records.specs.Encodings.{ends_line}
use Rattle.theory_records.specs.Judged.{line_accepted}
use Rattle.theory_records.specs.Profiles.{flat_more, refusal_none, within_size, accepted_few}
use Rattle.theory_records.specs.Questions.{lines_long, lines_at_stop}
use Rattle.theory_records.specs.Places.{LinesStand, lines_stand_more, lines_stand_none}
use Rattle.theory_records.specs.WrittenInputs.{LineFits, proof_walked_written}
use Rattle.theory_answers.specs.Refusing.{unless_sound, sound_more, sound_end, fits_size}
use Rattle.theory_answers.specs.FromProof.{not_refused, from_unique}
use Rattle.theory_lists.specs.Logic.{found_below, found_mem}
use Rattle.theory_derive.specs.Accept.{line_keys_length}
use Rattle.theory_trim.specs.Needs.{Needs, no_line as none_there, stays, goes, needs_few}
use Rattle.theory_trim.specs.Premises.{key_stays}
use Rattle.theory_trim.specs.Trimmed.{stay_needs, end_stands, line_from, trimmed_length, trimmed_accepted}
use Rattle.theory_trim.specs.Again.{trimmed_again}

-- a line's bytes are as many as its key's and nine
pub line_size : (l : Line) → length (line_bytes l) ≡ 9 + length (key_body l.key)
unfolding line_bytes word_bytes record_bytes
line_size l = omega arith

-- .. which are those that it was read from
read_size : (l : List ℕ) → Whole l → record_kind l ≡ 4 → length (line_bytes (read_line (record_body l))) ≡ record_length l
unfolding read_line
read_size l w k =
    let e = ends_line l w k in
    let b = body_length l w.within in
    let s : length (key_body (key_in (drop 5 (record_body l)))) ≡ length (drop 5 (record_body l)) = ap length (key_in_written (drop 5 (record_body l)) e.1) in
    line_size (read_line (record_body l)) ∙ (let h = e.0 in let g = w.long in omega (arith, length-drop 5 (record_body l)))

record SizeAt (bytes : List ℕ) (lines : List Line) (rest : List ℕ) : Type 0 where
  sum : length (flatten (map line_bytes lines)) + length rest ≡ length bytes

size_kept : (labels : List Label) (bytes : List ℕ) (n : ℕ) (lines : List Line) (l : List ℕ) → SizeAt bytes lines l → 0 < length l
    → first_of (line_tests labels lines l) ≡ 0 → SizeAt bytes (lines ++ (read_line (record_body l) ∷ [])) (drop (record_length l) l)
size_kept labels bytes n lines l g h e =
    let a = line_accepted labels lines l e in
    let x : Line = read_line (record_body l) in
    let s = read_size l a.is_whole a.kind in
    let f = ap length (flat_more line_bytes lines x) in
    let w = a.is_whole.within in
    let t = g.sum in
    record { sum = omega (arith, length-append (flatten (map line_bytes lines)) (line_bytes x), length-drop (record_length l) l) }

-- the lines that were read are, written, no more bytes than the proof has
pub lines_size : (labels : List Label) (bytes : List ℕ) → length (flatten (map line_bytes (proof_walked labels bytes).state)) ≤ length bytes
unfolding proof_walked flatten
lines_size labels bytes =
    let w =
    walk_keeps (line_tests labels) (λ (lines : List Line) (l : List ℕ). lines ++ (read_line (record_body l) ∷ [])) (λ n lines rest. SizeAt bytes lines rest)
    (lines_long labels)
    (size_kept labels bytes)
    0
    []
    bytes
    (record { sum = omega arith }) in
    let s = w.held.sum in
    omega arith

-- what stays is, written, no more than all
kept_size : (lines : List Line) (f : ℕ → ℕ) {n : ℕ} {wanted kept : List ℕ} → Needs lines n wanted kept → n ≤ length lines
    → length (flatten (map (λ (m : ℕ). line_bytes (with_premises f (line_at lines m))) kept)) ≤ length (flatten (map line_bytes (take n lines)))
unfolding flatten line_at
kept_size lines f none_there h = omega arith
kept_size lines f (stays {n = n} {kept = kept} w r) h =
    let more = kept_size lines f r (omega arith) in
    let g : ℕ → List ℕ = λ (m : ℕ). line_bytes (with_premises f (line_at lines m)) in
    let left = ap length (flat_more g kept n) in
    let right = ap (λ (l : List Line). length (flatten (map line_bytes l))) (take-suc lines n no_line h) in
    let last = ap length (flat_more line_bytes (take n lines) (get_or lines n no_line)) in
    let same = size_same f lines n in
    omega (
      arith,
      length-append (flatten (map g kept)) (g n),
      length-append (flatten (map line_bytes (take n lines))) (line_bytes (get_or lines n no_line)),
    )
  where
    size_same : (f : ℕ → ℕ) (lines : List Line) (n : ℕ) → length (line_bytes (with_premises f (line_at lines n))) ≡ length (line_bytes (get_or lines n no_line))
    size_same f lines n =
        line_size (with_premises f (line_at lines n))
        ∙ (ap (λ (k : Key). 9 + length (key_body k)) (key_stays f (line_at lines n)) ∙ sym (line_size (get_or lines n no_line)))
kept_size lines f (goes {n = n} {kept = kept} w r) h =
    let more = kept_size lines f r (omega arith) in
    let right = ap (λ (l : List Line). length (flatten (map line_bytes l))) (take-suc lines n no_line h) in
    let last = ap length (flat_more line_bytes (take n lines) (get_or lines n no_line)) in
    omega (arith, length-append (flatten (map line_bytes (take n lines))) (line_bytes (get_or lines n no_line)))

each_numbered : {A : Type 0} {Q : A → Type 0} (xs : List A) → ((i : ℕ) (x : A) → get_elem? xs i ≡ some x → Q x) → Each Q xs
each_numbered [] h = Each.end
each_numbered (x ∷ xs) h = Each.also (h 0 x refl) (each_numbered xs (λ i y e. h (suc i) y e))

-- the fields of a line that follows are two bytes each
record Fields (l : Line) : Type 0 where
  one : l.first < 65536
  two : l.second < 65536

module _ (keys earlier : List Key) (few : length keys ≤ 64) (short : length earlier ≤ 256) where
  one_field : (l : Line) (p : Key) → l.second ≡ 65535 → get_elem? earlier l.first ≡ some p → Fields l
  one_field l p s g = record { one = let h = found_below earlier l.first g in omega arith; two = omega arith }

  rule_fields : {labels : List Label} (l : Line) → Follows labels keys earlier l → Fields l
  rule_fields l (rule0 e s c) = record { one = let h = found_below keys l.first c in omega arith; two = omega arith }
  rule_fields l (rule1 e a b c) = record { one = omega arith; two = omega arith }
  rule_fields l (rule2 e s p g c) = one_field l p s g
  rule_fields l (rule3 e s p g c) = one_field l p s g
  rule_fields l (rule4 e s p g c) = one_field l p s g
  rule_fields l (rule5 e s p g c) = one_field l p s g
  rule_fields l (rule6 e s p g c) = one_field l p s g
  rule_fields l (rule7 e s p g c) = one_field l p s g
  rule_fields l (rule8 e s p g c) = one_field l p s g
  rule_fields l (rule9 e p r g h c) =
      record { one = let b = found_below earlier l.first g in omega arith; two = let b = found_below earlier l.second h in omega arith }

  follow_fields : {single : ℕ → Bool} {labels : List Label} (l : Line) → FollowsIn single labels keys earlier l → Fields l
  follow_fields l (shared f) = rule_fields l f
  follow_fields l (rule10 e a b c) = record { one = omega arith; two = omega arith }

-- What it says that the check accepts
pub record ProofSound (profile question proof : List ℕ) : Type 0 where
  pub sound_profile : (profile_refusal profile).number ≡ 0
  pub sound_question : (question_refusal (labels_in profile) question).number ≡ 0
  pub size : length proof ≤ 65536
  pub ended : (proof_walked (labels_in profile) proof).number ≡ 0
  pub holds : Accepted (single_in profile) (labels_in profile) (keys_in profile) (question_in question) (lines_in profile proof)

unless_accepted : (rs : List Refusal) (buffer : List ℕ) (Q : Answer → Type 0) → Unless rs buffer Q (plain accepted)
    → ((first_refusal rs).number ≡ 0) × Q (plain accepted)
unfolding Unless choose
unless_accepted rs buffer Q = go (first_refusal rs).number refl
  where
    go : (n : ℕ) → (first_refusal rs).number ≡ n → choose n (Q (plain accepted)) (plain accepted ≡ refused_by (first_refusal rs) buffer)
        → ((first_refusal rs).number ≡ 0) × Q (plain accepted)
    go zero e q = (e, q)
    go (suc n) e q = absurd (not_refused (first_refusal rs) buffer q)

judged_accepted : (single : ℕ → Bool) (labels : List Label) (keys : List Key) (question : Key) (walked : Walked (List Line))
    → ProofJudged single labels keys question walked (plain accepted) → (walked.number ≡ 0) × Accepted single labels keys question walked.state
judged_accepted single labels keys question walked (unfollowed n h l f p) = absurd (not_refused _ [] p)
judged_accepted single labels keys question walked (faulty l r p) = absurd (not_refused _ [] p)
judged_accepted single labels keys question walked (other_end l z e p) = absurd (not_refused _ [] p)
judged_accepted single labels keys question walked (proved l z e p) = (z, record { each = l; last = e })

pub proof_sound : (profile question proof : List ℕ) → ChecksProof profile question proof (plain accepted) → ProofSound profile question proof
unfolding ChecksProof lines_in
proof_sound profile question proof c =
    let u = unless_accepted _ [] _ c in
    let one = refusal_none _ _ u.0 in
    let two = refusal_none _ _ one.1 in
    let three = refusal_none _ _ two.1 in
    record {
      sound_profile = one.0;
      sound_question = two.0;
      size = within_size 3 proof_bytes proof three.0;
      ended = (judged_accepted _ _ _ _ _ u.1).0;
      holds = (judged_accepted _ _ _ _ _ u.1).1;
    }

-- the lines of an accepted proof: not too many, and nothing stands behind them
module _ {profile question proof : List ℕ} (s : ProofSound profile question proof) where
  pub proof_few : length (lines_in profile proof) ≤ 256
  unfolding lines_in
  proof_few = (lines_at_stop (labels_in profile) proof).few

  pub proof_ended : records_from (length (lines_in profile proof)) proof ≡ []
  unfolding lines_in proof_walked
  proof_ended =
      let w =
      walk_keeps (line_tests (labels_in profile)) (λ (lines : List Line) (l : List ℕ). lines ++ (read_line (record_body l) ∷ [])) (LinesStand (labels_in profile) proof)
      (lines_long (labels_in profile))
      (lines_stand_more (labels_in profile) proof)
      0
      []
      proof
      (lines_stand_none (labels_in profile) proof) in
      ap (λ (n : ℕ). records_from n proof) (sym w.held.counted) ∙ sym w.held.here ∙ w.sound s.ended

module _ (profile question proof : List ℕ) (s : ProofSound profile question proof) where
  abbrev single : ℕ → Bool
  single = single_in profile

  abbrev labels : List Label
  labels = labels_in profile

  abbrev keys : List Key
  keys = keys_in profile

  abbrev asked : Key
  asked = question_in question

  abbrev lines : List Line
  lines = lines_in profile proof

  abbrev short : List Line
  short = trimmed_lines lines asked

  take_size : (n : ℕ) (ls : List Line) → length (flatten (map line_bytes (take n ls))) ≤ length (flatten (map line_bytes ls))
  unfolding flatten
  take_size zero ls = omega arith
  take_size (suc n) [] = omega arith
  take_size (suc n) (l ∷ ls) =
      let h = take_size n ls in
      omega (
        arith,
        length-append (line_bytes l) (flatten (map line_bytes (take n ls))),
        length-append (line_bytes l) (flatten (map line_bytes ls)),
      )

  -- no more bytes than the proof
  pub trimmed_size : length (trimmed_proof profile question proof) ≤ length proof
  unfolding trimmed_proof trimmed_lines lines_in
  trimmed_size =
      let a = s.holds in
      let n : ℕ = suc (earliest (line_keys lines) asked) in
      let f : ℕ → ℕ = λ (p : ℕ). place_in (needed lines asked) (pointed lines p) in
      let h : n ≤ length lines = let k = found_below (line_keys lines) _ (end_stands single labels keys asked lines a) in omega (arith, line_keys_length lines) in
      let part = kept_size lines f (stay_needs single labels keys asked lines a) h in
      let less = take_size n lines in
      let all = lines_size labels proof in
      subst (λ (k : ℕ). k ≤ length proof) (ap (λ (l : List (List ℕ)). length (flatten l)) (sym (map-map f (needed lines asked)))) (omega arith)
    where
      map-map : (f : ℕ → ℕ) (xs : List ℕ)
          → map line_bytes (map (λ (n : ℕ). with_premises f (line_at lines n)) xs) ≡ map (λ (n : ℕ). line_bytes (with_premises f (line_at lines n))) xs
      map-map f [] = refl
      map-map f (x ∷ xs) = ap (λ (l : List (List ℕ)). line_bytes (with_premises f (line_at lines x)) ∷ l) (map-map f xs)

  -- it fits where a proof fits
  pub trimmed_fits : length (trimmed_proof profile question proof) ≤ 65536
  trimmed_fits = let h = trimmed_size in let k = s.size in omega arith

  short_few : length short ≤ 256
  unfolding lines_in
  short_few =
      let a = s.holds in
      let f = needs_few (stay_needs single labels keys asked lines a) in
      let e = trimmed_length single labels keys asked lines a in
      let k = found_below (line_keys lines) _ (end_stands single labels keys asked lines a) in
      let g = (lines_at_stop labels proof).few in
      omega (arith, line_keys_length lines)

  line_good : (i : ℕ) (l : Line) → get_elem? short i ≡ some l → GoodKey labels in_proof l.key
  unfolding lines_in
  line_good i l e =
      let f = line_from single labels keys asked lines s.holds i l e in
      subst (GoodKey labels in_proof) (sym (ap (λ (x : Line). x.key) f.is ∙ key_stays _ (line_at lines f.n)))
      (Each-at (lines_at_stop labels proof).good (line_at lines f.n) (found_mem lines f.n f.stands))

  fits : Each (LineFits labels) short
  unfolding FollowsBelow
  fits =
      each_numbered short
      (λ i l e.
      let a = trimmed_accepted single labels keys asked lines s.holds in
      let h = found_below short i e in
      let at = a.each i h in
      let short-before : length (line_keys (take i short)) ≤ 256 =
      let m = short_few in omega (arith, line_keys_length (take i short), lib.ListN.length-take i short) in
      let f = follow_fields keys (line_keys (take i short)) (accepted_few profile s.sound_profile) short-before at.line at.follows in
      let same : at.line ≡ l = Rattle.theory_trim.specs.Numbered.same_at short i at.stands e in
      let w : Fields l = subst Fields same f in
      record { first = w.one; second = w.two; good = line_good i l e })

  -- what is written is read back
  pub trimmed_walked : proof_walked labels (trimmed_proof profile question proof) ≡ record { number = 0; at = length short; state = short }
  unfolding trimmed_proof
  trimmed_walked = proof_walked_written labels short fits short_few

  pub trimmed_lines_lem : lines_in profile (trimmed_proof profile question proof) ≡ trimmed_lines (lines_in profile proof) (question_in question)
  unfolding lines_in
  trimmed_lines_lem = ap (λ (w : Walked (List Line)). w.state) trimmed_walked

  -- "the result is accepted"
  pub trimmed_checks : ChecksProof profile question (trimmed_proof profile question proof) (plain accepted)
  unfolding ChecksProof
  trimmed_checks =
      let a = trimmed_accepted single labels keys asked lines s.holds in
      unless_sound _ [] _ (plain accepted)
      (sound_more _ _ s.sound_profile
      (sound_more _ _ s.sound_question (sound_more _ _ (fits_size 3 proof_bytes (trimmed_proof profile question proof) trimmed_fits) sound_end)))
      (subst (λ (w : Walked (List Line)). ProofJudged single labels keys asked w (plain accepted)) (sym trimmed_walked)
      (proved a.each refl a.last refl))

  -- "trimming again changes nothing"
  pub trimmed_bytes_again : trimmed_proof profile question (trimmed_proof profile question proof) ≡ trimmed_proof profile question proof
  unfolding trimmed_proof
  trimmed_bytes_again =
      ap (λ (ls : List Line). flatten (map line_bytes (trimmed_lines ls asked))) trimmed_lines_lem
      ∙ ap (λ (ls : List Line). flatten (map line_bytes ls)) (trimmed_again single labels keys asked lines s.holds)

-- One answer
pub trims_unique : (profile question proof buffer : List ℕ) (a b : Answer) → Trims profile question proof buffer a → Trims profile question proof buffer b
    → a ≡ b
unfolding Trims
trims_unique profile question proof buffer = from_unique _ _ _ _ _ _
