-- Where the lines of an accepted proof stand.
use Rattle.std.specs.Prelude.{ℕ, zero, suc, ◌+◌, ◌-◌, ◌*◌, ◌≤◌, ◌<◌, ◌≡◌, refl, ◌⊎◌, get_or, set}
use Rattle.std.proofs.Math.Path.{sym, ap, ap₂, subst}
use Rattle.std.proofs.Common.{◌∙◌, inl, inr, eq-or-lt_of_le, le_of_suc-le-suc, drop_of_length-le, drop-drop, get_or-drop, get_or-set_same, get_or-set_other}
use mathlib.Core.List.{List, []}
use Rattle.std.proofs.Math.Option.{some}
use native.Mathlib.Omega.{arith}
use Rattle.std.proofs.Math.Decide.{dec_lt}
use Rattle.std.proofs.Math.Numerals.{add-one}
use Rattle.std.proofs.Math.ListN.{length, take, drop, get_elem?, length-set, length-drop}
use Rattle.meaning.specs.Records.{word, record_length, record_body, read_line}
use Rattle.meaning.specs.Operations.{records_from, labels_in}
use Rattle.meaning.specs.Trimming.{no_line, line_at, lines_in}
use Rattle.theory_records.specs.Bodies.{records_next}
use Rattle.theory_records.specs.Places.{line_place}
use Rattle.rule_premises.specs.Premises.{lines_from, LineRecord, Earlier}
use Rattle.rule_premises.specs.ProofLines.{lines_are}
use Rattle.rule_lines.specs.Checking.{line_record}
use Rattle.theory_trim.specs.Numbered.{get_or_is}
use Rattle.theory_trim.specs.TrimmedBytes.{ProofSound, proof_few, proof_ended}

-- a proof that the check accepts, for some profile and question
pub record Proved (proof : List ℕ) : Type 0 where
  pub profile : List ℕ
  pub question : List ℕ
  pub sound : ProofSound profile question proof

-- so many lines stand in the proof, each at its place
pub record Standing (count : ℕ) (proof at : List ℕ) : Type 0 where
  pub few : count ≤ 256
  pub earlier : Earlier count proof
  pub place : (i : ℕ) → i < count → drop (get_or at i 0) proof ≡ records_from i proof

pub standing_fewer : {count : ℕ} {proof at : List ℕ} → Standing count proof at → (n : ℕ) → n ≤ count → Standing n proof at
standing_fewer s n h =
    let f = s.few in
    record {
      few = omega arith;
      earlier = record { each = λ i l. s.earlier.each i (omega arith) };
      place = λ i l. s.place i (omega arith);
    }

-- a line stands at this place
pub record LineThere (proof : List ℕ) (place : ℕ) : Type 0 where
  pub line : LineRecord (drop place proof)

pub line_here : {count : ℕ} {proof at : List ℕ} → Standing count proof at → (i : ℕ) → i < count → LineThere proof (get_or at i 0)
line_here s i h = record { line = subst LineRecord (sym (s.place i h)) (s.earlier.each i h) }

-- what a line at a place says of the proof's length
pub word_there : (l : List ℕ) (place : ℕ) → record_length (drop place l) ≡ word l place
unfolding record_length word
word_there l place =
    let z : place + 0 ≡ place = omega arith in
    ap₂ (λ (a b : ℕ). a + 256 * b) (get_or-drop place l 0 0 ∙ ap (λ (n : ℕ). get_or l n 0) z) (get_or-drop place l 1 0)

module _ {l : List ℕ} {place : ℕ} (r : LineThere l place) where
  pub line_long : place + 9 ≤ length l
  line_long = let a = r.line.long in let b = r.line.within in omega (arith, length-drop place l)

  module _ {size : ℕ} (e : size ≡ word l place) where
    is_length : size ≡ record_length (drop place l)
    is_length = e ∙ sym (word_there l place)

    pub line_low : 9 ≤ size
    line_low = let a = r.line.long in omega (arith, is_length)

    pub line_end : place + size ≤ length l
    line_end = let a = r.line.long in let b = r.line.within in omega (arith, is_length, length-drop place l)

    -- the body, as a part of the proof
    pub body_there : take (place + size - (place + 4)) (drop (place + 4) l) ≡ record_body (drop place l)
    unfolding record_body
    body_there =
        let n : place + size - (place + 4) ≡ record_length (drop place l) - 4 = omega (arith, is_length) in
        ap₂ take n (sym (drop-drop 4 place l))

-- the lines of an accepted proof
module _ {profile question proof : List ℕ} (s : ProofSound profile question proof) where
  pub proof_earlier : Earlier (length (lines_in profile proof)) proof
  unfolding lines_in
  proof_earlier =
      record {
        each =
            λ i h.
            let p = line_place (labels_in profile) proof i h in
            line_record (labels_in profile) [] (records_from i proof)
            (record { is_whole = p.is_whole; kind = p.kind; room = omega arith; good = p.good });
      }

no_line_lem : {l : List ℕ} → LineRecord l → l ≡ [] → ⊥
no_line_lem r e = let a = r.long in let b = r.within in let z = ap length e in omega arith

-- The loop: n lines are found, and the next stands at this place
pub record StandsTo (proof at : List ℕ) (place n : ℕ) : Type 0 where
  pub proved : Proved proof
  pub here : drop place proof ≡ records_from n proof
  pub standing : Standing n proof at
  pub size : length at ≡ 256
  pub most : n ≤ length (lines_in proved.profile proof)

pub stands_start : {proof : List ℕ} → Proved proof → (at : List ℕ) → length at ≡ 256 → StandsTo proof at 0 0
unfolding records_from
stands_start p at e =
    record {
      proved = p;
      here = refl;
      standing = record { few = omega arith; earlier = record { each = λ i h. absurd (omega arith) }; place = λ i h. absurd (omega arith) };
      size = e;
      most = omega arith;
    }

module _ {proof at : List ℕ} {place n : ℕ} (s : StandsTo proof at place n) where
  pub stands_done : length proof ≤ place → records_from n proof ≡ []
  stands_done h = sym s.here ∙ drop_of_length-le proof h

  module _ (more : place < length proof) where
    lines : ℕ
    lines = length (lines_in s.proved.profile proof)

    less : n < lines
    unfolding lines
    less = go (eq-or-lt_of_le s.most)
      where
        go : (n ≡ length (lines_in s.proved.profile proof)) ⊎ (n < length (lines_in s.proved.profile proof)) → n < length (lines_in s.proved.profile proof)
        go (inr h) = h
        go (inl e) =
            let z = ap length (s.here ∙ ap (λ (i : ℕ). records_from i proof) e ∙ proof_ended s.proved.sound) in
            absurd (omega (arith, length-drop place proof))

    pub stands_few : n < 256
    unfolding lines
    stands_few = let a = less in let b = proof_few s.proved.sound in omega arith

    pub stands_line : LineThere proof place
    unfolding lines
    stands_line = record { line = subst LineRecord (sym s.here) ((proof_earlier s.proved.sound).each n less) }

    pub stands_next : {size : ℕ} → size ≡ word proof place → StandsTo proof (set at n place) (place + size) (n + 1)
    unfolding lines
    stands_next {size} e =
        let q : size ≡ record_length (records_from n proof) = e ∙ sym (word_there proof place) ∙ ap record_length s.here in
        let f = stands_few in
        rw add-one
        (record {
          proved = s.proved;
          here =
              sym (drop-drop size place proof) ∙ ap₂ drop q s.here ∙ sym (records_next n proof);
          standing =
              record {
                few = omega arith;
                earlier = record { each = λ i h. each i (eq-or-lt_of_le (le_of_suc-le-suc h)) };
                place = λ i h. at_place i (eq-or-lt_of_le (le_of_suc-le-suc h));
              };
          size = length-set at n place ∙ s.size;
          most = less;
        })
      where
        each : (i : ℕ) → (i ≡ n) ⊎ (i < n) → LineRecord (records_from i proof)
        each i (inl q) = subst (λ (j : ℕ). LineRecord (records_from j proof)) (sym q) ((proof_earlier s.proved.sound).each n less)
        each i (inr h) = s.standing.earlier.each i h

        at_place : (i : ℕ) → (i ≡ n) ⊎ (i < n) → drop (get_or (set at n place) i 0) proof ≡ records_from i proof
        at_place i (inl q) =
            subst (λ (j : ℕ). drop (get_or (set at n place) j 0) proof ≡ records_from j proof) (sym q)
            (ap (λ (p : ℕ). drop p proof) (get_or-set_same at n place 0 (let a = s.size in let b = stands_few in omega arith)) ∙ s.here)
        at_place i (inr h) = ap (λ (p : ℕ). drop p proof) (get_or-set_other at n i place 0 (λ q. omega arith)) ∙ s.standing.place i h

-- the lines found are the lines of the proof
module _ {count : ℕ} {proof at : List ℕ} (s : Standing count proof at) (ended : records_from count proof ≡ [])
    {profile question : List ℕ} (p : ProofSound profile question proof) where
  pub count_is : count ≡ length (lines_in profile proof)
  count_is = go (dec_lt count (length (lines_in profile proof))) (dec_lt (length (lines_in profile proof)) count)
    where
      go : Dec (count < length (lines_in profile proof)) → Dec (length (lines_in profile proof) < count) → count ≡ length (lines_in profile proof)
      go (yes h) d = absurd (no_line_lem ((proof_earlier p).each count h) ended)
      go (no h) (yes k) = absurd (no_line_lem (s.earlier.each _ k) (proof_ended p))
      go (no h) (no k) = omega arith

  pub lines_found : lines_from count proof ≡ lines_in profile proof
  unfolding lines_in
  lines_found = ap (λ (n : ℕ). lines_from n proof) count_is ∙ lines_are (labels_in profile) proof

-- a line by its number
pub line_stands : (n i : ℕ) (l : List ℕ) → i < n → get_elem? (lines_from n l) i ≡ some (read_line (record_body (records_from i l)))
unfolding lines_from records_from
line_stands zero i l h = absurd (omega arith)
line_stands (suc n) zero l h = refl
line_stands (suc n) (suc i) l h = line_stands n i (drop (record_length l) l) (omega arith)

pub line_read : {count : ℕ} {proof at : List ℕ} → Standing count proof at → (i : ℕ) → i < count
    → line_at (lines_from count proof) i ≡ read_line (record_body (drop (get_or at i 0) proof))
unfolding line_at
line_read {count} {proof} s i h =
    get_or_is (lines_from count proof) i no_line (line_stands count i proof h)
    ∙ ap (λ (l : List ℕ). read_line (record_body l)) (sym (s.place i h))
