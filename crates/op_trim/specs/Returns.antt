-- The bytes that are written are the trimmed proof's; and a law for each return of the operation.
use Prim.Native.Nat.{ℕ, suc, ◌+◌, ◌-◌, ◌≤◌, ◌<◌}
use Rattle.std.specs.Prelude.{◌≡◌, refl, Bool, true, false, length}
use Rattle.std.proofs.Math.Path.{sym, ap, ap₂}
use Rattle.std.proofs.Common.{subst, ◌∙◌}
use mathlib.Core.List.{List, [], ◌∷◌, map, flatten, Memᴰ}
use Rattle.std.proofs.Math.Option.{some}
use native.Mathlib.Omega.{arith}
use Rattle.std.proofs.Math.Numerals.{add-one}
use Rattle.std.proofs.Math.ListN.{get_or, get_elem?}
use Rattle.meaning.specs.Lists
use Rattle.meaning.specs.Lists.{keep}
use Rattle.meaning.specs.Rules.{Line, line_keys, EndsWith, Accepted}
use Rattle.meaning.specs.Records.{line_bytes}
use Rattle.meaning.specs.Refusals.{question_in}
use Rattle.meaning.specs.Operations.{records_from, single_in, labels_in, keys_in, ChecksProof, refused_by, plain, accepted, trimmed}
use Rattle.meaning.specs.Trimming.{earliest, pointed, with_premises, premises, line_at, needed, place_in, trimmed_lines, trimmed_proof, Trims}
use Rattle.theory_lists.specs.Bools.{true_of}
use Rattle.theory_trees.specs.Children.{keep_mem}
use Rattle.rule_premises.specs.Premises.{lines_from}
use Rattle.theory_lists.specs.Logic.{found_below}
use Rattle.theory_derive.specs.Accept.{line_keys_length}
use Rattle.theory_trim.specs.Firsts.{pointed_is}
use Rattle.theory_trim.specs.Needs.{needs_below}
use Rattle.theory_trim.specs.Premises.{changes_alike}
use Rattle.theory_trim.specs.Trimmed.{premise_before, stay_needs, pointed_stays, is_map}
use Rattle.theory_trim.specs.Marks.{Marking, needed_marked, place_marked}
use Rattle.theory_trim.specs.TrimmedBytes.{ProofSound, proof_sound, trimmed_fits}
use Rattle.write_bytes.specs.Wrote.{Wrote}
use Rattle.op_answers.specs.declared.Refusal.{Refusal}
use Rattle.op_answers.specs.Cases.{meant, used_of}
use Rattle.op_proof.specs.Taking.{return_small, return_refused, return_filled}
use Rattle.rule_stands.specs.Standing.{Proved, Standing, line_here, count_is, lines_found, line_read}
use Rattle.rule_stands.specs.Pointing.{Pointing}
use Rattle.rule_needed.specs.Marked.{Linked, end_low, few_lines, known_line}
use Rattle.rule_needed.specs.Numbering.{NumberedTo, marks_before}
use Rattle.write_trimmed.specs.Putting.{moves, moved_line, kept_bytes, Writable}

-- what was found of a proof that the check accepts
module _ {count : ℕ} {proof at : List ℕ} (s : Standing count proof at) (ended : records_from count proof ≡ []) {profile question : List ℕ}
    (p : ProofSound profile question proof) where
  accepted_lines : Accepted (single_in profile) (labels_in profile) (keys_in profile) (question_in question) (lines_from count proof)
  accepted_lines =
      subst (Accepted (single_in profile) (labels_in profile) (keys_in profile) (question_in question)) (sym (lines_found s ended p)) p.holds

  lines_number : length (lines_from count proof) ≡ count
  lines_number = ap length (lines_found s ended p) ∙ sym (count_is s ended p)

  last_is : get_elem? (line_keys (lines_from count proof)) (count - 1) ≡ some (question_in question)
  unfolding EndsWith
  last_is = ap (λ (n : ℕ). get_elem? (line_keys (lines_from count proof)) (n - 1)) (sym lines_number) ∙ accepted_lines.last

  pub some_line : 0 < count
  some_line =
      let h = found_below (line_keys (lines_from count proof)) (count - 1) last_is in
      omega (arith, line_keys_length (lines_from count proof), lines_number)

  pub linked : {firsts : List ℕ} → Pointing count count proof firsts → Linked count proof at firsts
  linked q =
      record {
        some = some_line;
        standing = s;
        pointing = q;
        before = λ n x h m. (premise_before _ _ _ _ _ accepted_lines n x (omega (arith, lines_number)) m).1;
      }

  module _ {firsts : List ℕ} (q : Pointing count count proof firsts) {marks : List Bool}
      (m : Marking (lines_from count proof) (get_or firsts (count - 1) 0) 0 marks) {numbers : List ℕ}
      (r : NumberedTo (get_or firsts (count - 1) 0 + 1) marks numbers) where
    abbrev lines : List Line
    lines = lines_from count proof

    abbrev stay : List ℕ
    stay = needed (lines_from count proof) (question_in question)

    abbrev move : ℕ → ℕ
    move x = place_in stay (pointed lines x)

    abbrev is_marked : ℕ → Bool
    is_marked n = get_or marks n false

    abbrev end : ℕ
    end = get_or firsts (count - 1) 0

    -- the end is the earliest line with the question's key
    end_is : end ≡ earliest (line_keys lines) (question_in question)
    end_is = q.is (count - 1) (let h = some_line in omega arith) ∙ pointed_is lines (count - 1) last_is

    stay_is : stay ≡ keep is_marked (Lists.numbers (suc end) 0)
    stay_is =
        needed_marked lines (question_in question) marks (subst (λ (n : ℕ). Marking lines n 0 marks) end_is m)
        ∙ ap (λ (n : ℕ). keep is_marked (Lists.numbers (suc n) 0)) (sym end_is)

    stay_low : (n : ℕ) → Memᴰ n stay → n ≤ end
    stay_low n k = let h = needs_below (stay_needs _ _ _ _ _ accepted_lines) n k in omega (arith, end_is)

    stay_marked : (n : ℕ) → Memᴰ n stay → is_marked n ≡ true
    stay_marked n k = true_of _ (keep_mem is_marked (Lists.numbers (suc end) 0) (subst (Memᴰ n) stay_is k)).1

    -- the number of a premise is its place among the lines that stay
    moves_so : (n x : ℕ) → Memᴰ n stay → Memᴰ x (premises (line_at lines n)) → moves firsts numbers x ≡ move x
    unfolding moves marks_before
    moves_so n x k h =
        let l = stay_low n k in
        let e = end_low (linked q) in
        let b = (premise_before _ _ _ _ _ accepted_lines n x (omega (arith, lines_number)) h).1 in
        let t = pointed_stays _ _ _ _ _ accepted_lines n x k h in
        let low : pointed lines x < suc end = let z = t.1 in omega arith in
        ap (λ (y : ℕ). get_or numbers y 0) (q.is x (omega arith))
        ∙ r.each (pointed lines x) (omega arith)
        ∙ sym (place_marked is_marked (suc end) 0 (pointed lines x) low (ap is_marked (none_more (pointed lines x)) ∙ stay_marked (pointed lines x) t.0))
        ∙ ap₂ place_in (sym stay_is) (none_more (pointed lines x))
      where
        none_more : (y : ℕ) → 0 + y ≡ y
        none_more y = omega arith

    line_so : (n : ℕ) → Memᴰ n stay → moved_line firsts numbers proof (get_or at n 0) ≡ line_bytes (with_premises move (line_at lines n))
    unfolding moved_line
    line_so n k =
        let h : n < count = let l = stay_low n k in let e = end_low (linked q) in omega arith in
        ap (λ (x : Line). line_bytes (with_premises (moves firsts numbers) x)) (sym (line_read s n h))
        ∙ ap line_bytes (changes_alike (moves firsts numbers) move (line_at lines n) (λ x j. moves_so n x k j))

    -- the bytes
    pub kept_is : kept_bytes proof at firsts marks numbers (end + 1) ≡ trimmed_proof profile question proof
    unfolding kept_bytes trimmed_proof
    kept_is =
        let one : end + 1 ≡ suc end = add-one end in
        ap (λ (n : ℕ). flatten (map line (keep is_marked (Lists.numbers n 0)))) one
        ∙ ap (λ (ns : List ℕ). flatten (map line ns)) (sym stay_is)
        ∙ ap flatten (map_so stay (λ n k. line_so n k))
        ∙ ap (λ (ls : List Line). flatten (map line_bytes ls)) (sym (is_map _ _ _ _ _ accepted_lines))
        ∙ ap (λ (ls : List Line). flatten (map line_bytes (trimmed_lines ls (question_in question)))) (lines_found s ended p)
      where
        line : ℕ → List ℕ
        line n = moved_line firsts numbers proof (get_or at n 0)

        map_so : (ns : List ℕ) → ((n : ℕ) → Memᴰ n ns → moved_line firsts numbers proof (get_or at n 0) ≡ line_bytes (with_premises move (line_at lines n)))
            → map (λ (n : ℕ). moved_line firsts numbers proof (get_or at n 0)) ns ≡ map line_bytes (map (λ (n : ℕ). with_premises move (line_at lines n)) ns)
        map_so [] h = refl
        map_so (n ∷ ns) h =
            ap₂ {C = List (List ℕ)} (λ (b : List ℕ) (bs : List (List ℕ)). b ∷ bs) (h n (Memᴰ.head refl)) (map_so ns (λ x k. h x (Memᴰ.tail k)))

    pub writable : {out : List ℕ} → 65536 ≤ length out → Writable out proof at firsts marks numbers end
    writable room =
        let k = linked q in
        record {
          small = let a = end_low k in let b = few_lines k in omega arith;
          each =
              λ n h.
              let low : n < count = let a = end_low k in omega arith in
              record { there = line_here s n low; known = known_line k n low refl };
          room = let f = trimmed_fits profile question proof p in omega (arith, ap length kept_is);
        }

-- ---- the operation

-- 14, before all else
pub trim_small : (profile question proof buffer : List ℕ) (r : Refusal) → length buffer < 65536 → meant r ≡ record { number = 14; input = 4; place = 0 }
    → Trims profile question proof buffer (refused_by (meant r) buffer)
unfolding Trims
trim_small profile question proof buffer = return_small trimmed profile question proof (trimmed_proof profile question proof) buffer

-- the check's own refusal
pub trim_refused : (profile question proof buffer : List ℕ) (r : Refusal) → ChecksProof profile question proof (refused_by (meant r) [])
    → 65536 ≤ length buffer → Trims profile question proof buffer (refused_by (meant r) buffer)
unfolding Trims
trim_refused profile question proof buffer r checked room =
    return_refused trimmed profile question proof (trimmed_proof profile question proof) buffer room r checked

module _ (profile question proof : List ℕ) (checked : ChecksProof profile question proof (plain accepted)) where
  pub trim_proved : Proved proof
  trim_proved = record { profile = profile; question = question; sound = proof_sound profile question proof checked }

  pub trim_filled : {buffer after : List ℕ} {used : ℕ} → 65536 ≤ length buffer
      → ((p q : List ℕ) → ProofSound p q proof → Wrote buffer after 0 (trimmed_proof p q proof) used)
      → Trims profile question proof buffer (used_of trimmed used after)
  unfolding Trims
  trim_filled {buffer} room wrote =
      return_filled trimmed profile question proof (trimmed_proof profile question proof) buffer room checked
      (wrote profile question (proof_sound profile question proof checked))
