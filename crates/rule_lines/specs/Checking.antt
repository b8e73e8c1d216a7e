-- A whole proof from the front: what holds after n lines, and what each answer says.
use Prim.Native.Nat.{ℕ, zero, suc, ◌+◌, ◌-◌, ◌<◌, ◌≤◌}
use Rattle.std.specs.Prelude.{◌≡◌, ◌⊎◌, Bool, true, false, ◌&&◌, eqb, get_or, take, ◌==◌, Result, Ok, Err}
use Rattle.std.specs.Cmp.Lexicographic.{pointwise}
use Rattle.read_record.specs.Library.{same_list}
use Rattle.std.proofs.Math.Path.{refl, sym, ap, ap₂, subst}
use Rattle.std.proofs.Common.{◌∙◌, inl, inr, add-one, arith, eq-or-lt_of_le, le_of_suc-le-suc}
use Rattle.std.proofs.Math.Bool.{cond}
use mathlib.Core.List.{List, [], ◌∷◌, ◌++◌, append_assoc, append-nil}
use Rattle.std.proofs.Math.Option.{Option, some, some-injective, none-ne-some}
use Rattle.std.proofs.Math.ListN.{length, drop, get_elem?, length-append}
use borrow.Author.Rules.{part_to_end}
use Rattle.meaning.specs.Lists.{end, same}
use Rattle.meaning.specs.Paths.{Label, Class, is_attribute, singles}
use Rattle.meaning.specs.Keys.{Key}
use Rattle.meaning.specs.Rules.{Line, line_keys, FollowsAt, FollowsBelow, EndsWith}
use Rattle.meaning.specs.Records.{word, record_length, record_body, read_key, key_in, is_some, read_line, key_body}
use Rattle.meaning.specs.Refusals.{Walked, first_of, walk, line_tests, proof_walked, question_in}
use Rattle.meaning.specs.Operations.{records_from, Answer, refused_by, plain, accepted, ProofJudged, unfollowed, faulty, other_end, proved, single_in, labels_in, keys_in}
use Rattle.theory_paths.specs.Good.{GoodLabels}
use Rattle.theory_lists.specs.Bools.{same_eq, eq_same, of_true, of_false}
use Rattle.theory_rule_tests.specs.LineTest.{unused, follows_test}
use Rattle.theory_rule_tests.specs.EditionTest.{one_attribute, tenth_test, follows_in_test}
use Rattle.theory_records.specs.Bytes.{Bytes, bytes_at, bytes_drop}
use Rattle.theory_records.specs.Walks.{walk_step, walk_stop, walk_end, walk_keeps}
use Rattle.theory_records.specs.Judged.{LineAccepted, line_accepted}
use Rattle.theory_records.specs.Encodings.{ends_line, ends_key, bytes_body}
use Rattle.theory_records.specs.Heads.{body_length}
use Rattle.theory_records.specs.HeadTests.{body_part}
use Rattle.theory_records.specs.KeyPlaces.{keys_from, KeyRecords, profile_keys_are, profile_key_records}
use Rattle.theory_records.specs.KeyBodies.{key_in_written}
use Rattle.theory_records.specs.Profiles.{each_more, length_more, accepted_labels}
use Rattle.theory_records.specs.Questions.{LinesAt, lines_long, QuestionSound, question_accepts}
use Rattle.theory_records.specs.Bodies.{records_next}
use Rattle.read_record.specs.Classes.{Tabled, class_by, class_tabled}
use Rattle.read_record.specs.Tables.{bytes_key}
use Rattle.read_entry.specs.Keys.{line_tests_by}
use Rattle.read_entry.specs.Agree.{line_agrees}
use Rattle.read_inputs.specs.Accepted.{Given}
use Rattle.read_judged.specs.declared.Fault.{Fault}
use Rattle.read_judged.specs.declared.RefusalKind.TheVariants.{Unfollowed, OtherEnd}
use Rattle.read_judged.specs.Answers.{number_of}
use Rattle.rule_tests.specs.SetBytes.{line_key}
use Rattle.rule_premises.specs.Premises.{lines_from, LineRecord, Earlier, LineBody, line_at, line_none}
use Rattle.rule_premises.specs.ProofLines.{lines_more}
use Rattle.rule_lines.specs.Following.{still_below, new_did_follow, below_more, told_follows, told_not}

-- "Where an answer is an enum, a definition gives this paper's number and values for each case of the enum": a proof is input 3
unfoldable pub checked_answer : Result Unit Fault → Answer
checked_answer (Ok _) = plain accepted
checked_answer (Err fault) = refused_by (record { number = number_of fault.kind; input = 3; place = fault.place }) []

pub given_labels : {profile : List ℕ} {second : Bool} {before keys : ℕ} {question classes : List ℕ} → Given profile second before keys question classes → GoodLabels (labels_in profile)
given_labels {profile} g = accepted_labels profile g.accepted_profile

pub given_question : {profile : List ℕ} {second : Bool} {before keys : ℕ} {question classes : List ℕ} → Given profile second before keys question classes
    → QuestionSound (labels_in profile) question
given_question {profile} {question = question} g = question_accepts (labels_in profile) question g.accepted_question

-- the labels that are single, by the table
pub given_single : {profile : List ℕ} {second : Bool} {before keys : ℕ} {question classes : List ℕ} → Given profile second before keys question classes
    → (n : ℕ) → n < 256 → singles second (class_by classes) n ≡ single_in profile n
unfolding singles single_in
given_single {profile} g n h = ap₂ (λ (b : Bool) (k : Class). b && is_attribute k) g.edition (class_tabled g.tabled n h)

one_agrees : (f g : ℕ → Bool) → ((n : ℕ) → n < 256 → f n ≡ g n) → (p : List ℕ) → ((i : ℕ) → get_or p i 0 < 256) → one_attribute f p ≡ one_attribute g p
unfolding one_attribute
one_agrees f g h [] small = refl
one_agrees f g h (l ∷ []) small = h l (small 0)
one_agrees f g h (l ∷ m ∷ p) small = refl

-- the keys of the profile where the code finds them
module _ {profile : List ℕ} {second : Bool} {before keys : ℕ} {question classes : List ℕ} (g : Given profile second before keys question classes)
    {part : List ℕ} (e : part ≡ records_from before profile) where
  pub part_keys : KeyRecords keys part
  part_keys =
      subst (λ (n : ℕ). KeyRecords n part) (sym g.key_count)
      (subst (KeyRecords (length (keys_in profile))) (sym (e ∙ ap (λ (n : ℕ). records_from n profile) g.before_keys)) (profile_key_records profile))

  pub part_are : keys_from keys part ≡ keys_in profile
  part_are =
      ap₂ keys_from g.key_count (e ∙ ap (λ (n : ℕ). records_from n profile) g.before_keys) ∙ profile_keys_are profile

-- after n lines: the rest of the proof, the walk that is left, and what holds of the lines read
pub record Sofar (single : ℕ → Bool) (labels : List Label) (keys : List Key) (proof : List ℕ) (n : ℕ) (rest : List ℕ) : Type 0 where
  pub here : rest ≡ records_from n proof
  pub small : Bytes rest
  pub walked : walk (line_tests labels) (λ (lines : List Line) (l : List ℕ). lines ++ (read_line (record_body l) ∷ [])) 0 n (lines_from n proof) rest ≡ proof_walked labels proof
  pub lines : LinesAt labels n (lines_from n proof)
  pub earlier : Earlier n proof
  pub follow : FollowsBelow single labels keys (lines_from n proof) n

pub sofar_start : (single : ℕ → Bool) (labels : List Label) (keys : List Key) (proof : List ℕ) → Bytes proof → Sofar single labels keys proof 0 proof
unfolding records_from lines_from proof_walked FollowsBelow
sofar_start single labels keys proof small =
    record {
      here = refl;
      small = small;
      walked = refl;
      lines = record { counted = refl; few = omega arith; good = end };
      earlier = record { each = λ i h. absurd (omega arith) };
      follow = λ i h. absurd (omega arith);
    }

-- one line, accepted up to 6
pub line_record : (labels : List Label) (lines : List Line) (l : List ℕ) → LineAccepted labels lines l → LineRecord l
unfolding read_line
line_record labels lines l a =
    let ends = ends_line l a.is_whole a.kind in
    record {
      long = omega (arith, ends.0, a.is_whole.long, body_length l a.is_whole.within);
      within = a.is_whole.within;
      key = line_key labels (drop 5 (record_body l)) ends.1 a.good;
    }

-- the state of a walk begins with what it began with
record Extends (base s : List Line) : Type 0 where
  more : List Line
  is : s ≡ base ++ more

walk_extends : (labels : List Label) (base : List Line) (n : ℕ) (l : List ℕ)
    → Extends base (walk (line_tests labels) (λ (lines : List Line) (l : List ℕ). lines ++ (read_line (record_body l) ∷ [])) 0 n base l).state
walk_extends labels base n l =
    (walk_keeps (line_tests labels) (λ (lines : List Line) (l : List ℕ). lines ++ (read_line (record_body l) ∷ [])) (λ m s rest. Extends base s)
    (lines_long labels)
    (λ m s rest x h e.
    record {
      more = x.more ++ (read_line (record_body rest) ∷ []);
      is = ap (λ (t : List Line). t ++ (read_line (record_body rest) ∷ [])) x.is ∙ append_assoc base x.more (read_line (record_body rest) ∷ []);
    })
    n base l
    (record { more = []; is = sym (append-nil base) })
    ).held

-- one line more is there, and was given a number up to 6
pub record LineJudged (single : ℕ → Bool) (labels : List Label) (keys : List Key) (proof classes : List ℕ) (n : ℕ) (rest : List ℕ) (number : ℕ) : Type 0 where
  pub sofar : Sofar single labels keys proof n rest
  pub tabled : Tabled labels classes
  pub is_line : 0 < length rest
  pub told : number ≡ first_of (line_tests_by classes n rest)

pub line_judged : {single : ℕ → Bool} {labels : List Label} {keys : List Key} {proof classes : List ℕ} {n : ℕ} {rest : List ℕ} {number : ℕ}
    → Sofar single labels keys proof n rest → Tabled labels classes → 0 < length rest → number ≡ first_of (line_tests_by classes n rest)
    → LineJudged single labels keys proof classes n rest number
line_judged s t h e = record { sofar = s; tabled = t; is_line = h; told = e }

module _ {single : ℕ → Bool} {labels : List Label} {keys : List Key} {proof classes : List ℕ} {n : ℕ} {rest : List ℕ} {number : ℕ}
    (read : LineJudged single labels keys proof classes n rest number) where
  s : Sofar single labels keys proof n rest
  s = read.sofar

  judged : number ≡ first_of (line_tests labels (lines_from n proof) rest)
  judged = read.told ∙ line_agrees read.tabled rest s.small n (lines_from n proof) s.lines.counted

  pub sofar_refused : (question : Key) → (number ≡ 0 → ⊥)
      → ProofJudged single labels keys question (proof_walked labels proof) (refused_by (record { number = number; input = 3; place = n }) [])
  sofar_refused question ne = go number refl
    where
      go : (m : ℕ) → number ≡ m → ProofJudged single labels keys question (proof_walked labels proof) (refused_by (record { number = number; input = 3; place = n }) [])
      go zero e = absurd (ne e)
      go (suc m) e =
          subst (λ (w : Walked (List Line)). ProofJudged single labels keys question w (refused_by (record { number = number; input = 3; place = n }) []))
          (sym (walk_stop (line_tests labels) (λ (lines : List Line) (l : List ℕ). lines ++ (read_line (record_body l) ∷ [])) n m (lines_from n proof) rest read.is_line
          (sym judged ∙ e)) ∙ s.walked)
          (faulty
          (subst (FollowsBelow single labels keys (lines_from n proof)) s.lines.counted s.follow)
          (omega arith)
          (ap (λ (j : ℕ). refused_by (record { number = j; input = 3; place = n }) []) e))

  module _ (zero_number : number ≡ 0) where
    its : LineAccepted labels (lines_from n proof) rest
    its = line_accepted labels (lines_from n proof) rest (sym judged ∙ zero_number)

    pub sofar_head : 4 ≤ length rest
    sofar_head = its.is_whole.head

    pub sofar_few : n < 256
    sofar_few = omega (arith, its.room, s.lines.counted)

    step : walk (line_tests labels) (λ (lines : List Line) (l : List ℕ). lines ++ (read_line (record_body l) ∷ [])) 0 (suc n)
        (lines_from n proof ++ (read_line (record_body rest) ∷ [])) (drop (record_length rest) rest) ≡ proof_walked labels proof
    step =
        sym (walk_step (line_tests labels) (λ (lines : List Line) (l : List ℕ). lines ++ (read_line (record_body l) ∷ [])) n (lines_from n proof) rest read.is_line
        (sym judged ∙ zero_number) (omega (arith, its.is_whole.long)))
        ∙ s.walked

    module _ {stop : ℕ} (is_end : stop ≡ word rest 0) where
      pub sofar_start_of : 4 ≤ stop
      unfolding record_length
      sofar_start_of = omega (arith, its.is_whole.long)

      pub sofar_end_of : stop ≤ length rest
      unfolding record_length
      sofar_end_of = omega (arith, its.is_whole.within)

      pub sofar_body : LineBody (take (stop - 4) (drop 4 rest))
      unfolding read_line
      sofar_body =
          let ends = ends_line rest its.is_whole its.kind in
          subst LineBody (sym (body_part rest is_end))
          (record { long = ends.0; key = line_key labels (drop 5 (record_body rest)) ends.1 its.good })

      module _ (known : GoodLabels labels) {code : ℕ → Bool} (agree : (k : ℕ) → k < 256 → code k ≡ single k) {profile_keys : List Key}
          (are : profile_keys ≡ keys)
          {r : Bool} (test : r ≡ follows_in_test code profile_keys (line_keys (lines_from n proof)) (read_line (take (stop - 4) (drop 4 rest)))) where
        small_target : (i : ℕ) → get_or (read_line (record_body rest)).key.target i 0 < 256
        unfolding read_line
        small_target =
            (bytes_key (drop 5 (record_body rest)) (ends_line rest its.is_whole its.kind).1 (bytes_at (bytes_drop 5 (bytes_body rest s.small)))).target

        tested : r ≡ follows_in_test single keys (line_keys (lines_from n proof)) (read_line (record_body rest))
        unfolding follows_in_test tenth_test
        tested =
            test ∙ ap₂ (λ (ks : List Key) (b : List ℕ). follows_in_test code ks (line_keys (lines_from n proof)) (read_line b)) are (body_part rest is_end)
            ∙ ap
            (λ (b : Bool).
            cond (eqb (read_line (record_body rest)).rule 10) (unused (read_line (record_body rest)).first && (unused (read_line (record_body rest)).second && b))
            (follows_test keys (line_keys (lines_from n proof)) (read_line (record_body rest))))
            (one_agrees code single agree (read_line (record_body rest)).key.target small_target)

        pub sofar_next : r ≡ true → {next : List ℕ} → next ≡ take (length rest - stop) (drop stop rest) → Sofar single labels keys proof (n + 1) next
        unfolding record_length
        sofar_next t {next} q =
            let at : drop (record_length rest) rest ≡ records_from (suc n) proof =
            ap (λ (m : List ℕ). drop (record_length m) m) s.here ∙ sym (records_next n proof) in
            let nx : next ≡ drop (record_length rest) rest = q ∙ part_to_end rest stop ∙ ap (λ (j : ℕ). drop j rest) is_end in
            let more : lines_from (suc n) proof ≡ lines_from n proof ++ (read_line (record_body rest) ∷ []) =
            lines_more n proof ∙ ap (λ (m : List ℕ). lines_from n proof ++ (read_line (record_body m) ∷ [])) (sym s.here) in
            rw (add-one, nx)
            (record {
              here = at;
              small = bytes_drop (record_length rest) s.small;
              walked = rw more step;
              lines =
                  rw more
                  (record {
                    counted = omega (arith, s.lines.counted, length_more (lines_from n proof) (read_line (record_body rest)));
                    few = omega (arith, its.room, length_more (lines_from n proof) (read_line (record_body rest)));
                    good = each_more s.lines.good its.good;
                  });
              earlier = record { each = λ i h. each i (eq-or-lt_of_le (le_of_suc-le-suc h)) };
              follow =
                  rw more
                  (below_more single labels keys (lines_from n proof) (read_line (record_body rest)) n s.lines.counted s.follow
                  (told_follows single labels known keys (lines_from n proof) s.lines.good (read_line (record_body rest)) its.good tested t));
            })
          where
            each : (i : ℕ) → (i ≡ n) ⊎ (i < n) → LineRecord (records_from i proof)
            each i (inl e) = subst LineRecord (s.here ∙ ap (λ (j : ℕ). records_from j proof) (sym e)) (line_record labels (lines_from n proof) rest its)
            each i (inr h) = s.earlier.each i h

        pub sofar_unfollowed : (question : Key) → r ≡ false → {judged : Result Unit Fault} → judged ≡ Err (record { kind = Unfollowed; place = n })
            → ProofJudged single labels keys question (proof_walked labels proof) (checked_answer judged)
        unfolding checked_answer
        sofar_unfollowed question t {judged} is_fault =
            rw is_fault
            (
            let x = walk_extends labels (lines_from n proof ++ (read_line (record_body rest) ∷ [])) (suc n) (drop (record_length rest) rest) in
            let state : (proof_walked labels proof).state ≡ lines_from n proof ++ (read_line (record_body rest) ∷ x.more) =
            ap (λ (w : Walked (List Line)). w.state) (sym step) ∙ x.is ∙ append_assoc (lines_from n proof) (read_line (record_body rest) ∷ []) x.more in
            unfollowed n
            (omega (arith, s.lines.counted, ap length state, length-append (lines_from n proof) (read_line (record_body rest) ∷ x.more)))
            (subst (λ (l : List Line). FollowsBelow single labels keys l n) (sym state)
            (still_below single labels keys (lines_from n proof) (read_line (record_body rest) ∷ x.more) n (omega (arith, s.lines.counted)) s.follow))
            (λ f. told_not single labels known keys (lines_from n proof) s.lines.good (read_line (record_body rest)) its.good tested t
            (new_did_follow single labels keys (lines_from n proof) (read_line (record_body rest)) x.more
            (subst (λ (j : ℕ). FollowsAt single labels keys (lines_from n proof ++ (read_line (record_body rest) ∷ x.more)) j) s.lines.counted
            (subst (λ (l : List Line). FollowsAt single labels keys l n) state f))))
            refl)

-- a question that was accepted, as the comparison asks it
pub record IsQuestion (question : List ℕ) : Type 0 where
  pub long : 4 ≤ record_length question
  pub within : record_length question ≤ length question
  pub shape : is_some (read_key (record_body question)) ≡ true

pub given_is : {profile : List ℕ} {second : Bool} {before keys : ℕ} {question classes : List ℕ} → Given profile second before keys question classes → IsQuestion question
given_is {question = question} g =
    let q = given_question g in
    record { long = q.is_whole.long; within = q.is_whole.within; shape = ends_key question q.is_whole q.kind }

module _ {question : List ℕ} (q : IsQuestion question) where
  pub question_start : {stop : ℕ} → stop ≡ word question 0 → 4 ≤ stop
  unfolding record_length
  question_start e = omega (arith, q.long)

  pub question_end : {stop : ℕ} → stop ≡ word question 0 → stop ≤ length question
  unfolding record_length
  question_end e = omega (arith, q.within)

-- "Then 10": the last line's key is the question, or not
pub data LastTold (last : Option Key) (question : Key) (place : ℕ) (r : Result Unit Fault) : Type 0 where
  ends : (u : Unit) → last ≡ some question → r ≡ Ok u → LastTold last question place r
  other : (last ≡ some question → ⊥) → r ≡ Err (record { kind = OtherEnd; place = place }) → LastTold last question place r

module _ (lines : ℕ) (proof : List ℕ) (q : Key) where
  pub last_empty : lines ≡ 0 → LastTold (get_elem? (line_keys (lines_from lines proof)) (lines - 1)) q (lines - 1) (Err (record { kind = OtherEnd; place = 0 }))
  last_empty e =
      let z : 0 ≡ lines - 1 = omega arith in
      other (λ h. none-ne-some _ (sym (line_none lines (lines - 1) proof (omega arith)) ∙ h)) (ap (λ (place : ℕ). Err (record { kind = OtherEnd; place = place })) z)

module _ (lines : ℕ) (proof question : List ℕ) (asked : IsQuestion question) (earlier : Earlier lines proof)
    (is_line : lines ≡ 0 → ⊥) {p : List ℕ} (e : p ≡ drop 5 (record_body (records_from (lines - 1) proof)))
    {stop : ℕ} (f : stop ≡ word question 0) {r : Bool} (g : r ≡ pointwise ◌==◌ p (take (stop - 4) (drop 4 question))) where
  less : lines - 1 < lines
  less = let h : 0 < lines = omega arith in omega arith

  told : r ≡ same (drop 5 (record_body (records_from (lines - 1) proof))) (record_body question)
  told = g ∙ same_list _ _ ∙ ap₂ same e (body_part question f)

  key_shape : is_some (read_key (drop 5 (record_body (records_from (lines - 1) proof)))) ≡ true
  key_shape = (earlier.each (lines - 1) less).key.shape

  pub last_same : (u : Unit) → r ≡ true → LastTold (get_elem? (line_keys (lines_from lines proof)) (lines - 1)) (question_in question) (lines - 1) (Ok u)
  unfolding question_in
  last_same u t =
      ends u
      (line_at lines (lines - 1) proof less
      ∙ ap (λ (b : List ℕ). some (key_in b)) (same_eq _ _ (of_true _ (sym told ∙ t))))
      refl

  pub last_other : r ≡ false → LastTold (get_elem? (line_keys (lines_from lines proof)) (lines - 1)) (question_in question) (lines - 1) (Err (record { kind = OtherEnd; place = lines - 1 }))
  unfolding question_in
  last_other t =
      other
      (λ h.
      of_false _ (sym told ∙ t)
      (eq_same _ _
      (sym (key_in_written _ key_shape)
      ∙ ap key_body (some-injective _ _ (sym (line_at lines (lines - 1) proof less) ∙ h))
      ∙ key_in_written (record_body question) asked.shape)))
      refl

pub sofar_done : {single : ℕ → Bool} {labels : List Label} {keys : List Key} {proof : List ℕ} {n : ℕ} {rest : List ℕ} → Sofar single labels keys proof n rest → length rest ≤ 0
    → {question : Key} {r : Result Unit Fault} → LastTold (get_elem? (line_keys (lines_from n proof)) (n - 1)) question (n - 1) r
    → ProofJudged single labels keys question (proof_walked labels proof) (checked_answer r)
unfolding checked_answer EndsWith
sofar_done {single} {labels} {keys} {proof} {n} {rest} s h {question} {r} told =
    subst (λ (w : Walked (List Line)). ProofJudged single labels keys question w (checked_answer r)) whole (go told)
  where
    empty : (l : List ℕ) → length l ≤ 0 → l ≡ []
    empty [] h = refl
    empty (x ∷ l) h = absurd (omega arith)

    stopped : Walked (List Line)
    stopped = record { number = 0; at = n; state = lines_from n proof }

    whole : stopped ≡ proof_walked labels proof
    whole =
        sym (walk_end (line_tests labels) (λ (lines : List Line) (l : List ℕ). lines ++ (read_line (record_body l) ∷ [])) n (lines_from n proof))
        ∙ ap (walk (line_tests labels) (λ (lines : List Line) (l : List ℕ). lines ++ (read_line (record_body l) ∷ [])) 0 n (lines_from n proof)) (sym (empty rest h))
        ∙ s.walked

    all : FollowsBelow single labels keys (lines_from n proof) (length (lines_from n proof))
    all = subst (FollowsBelow single labels keys (lines_from n proof)) s.lines.counted s.follow

    place : n - 1 ≡ length (lines_from n proof) - 1
    place = ap (λ (j : ℕ). j - 1) s.lines.counted

    go : LastTold (get_elem? (line_keys (lines_from n proof)) (n - 1)) question (n - 1) r → ProofJudged single labels keys question stopped (checked_answer r)
    go (ends u e q) = proved all refl (ap (get_elem? (line_keys (lines_from n proof))) (sym place) ∙ e) (ap checked_answer q)
    go (other e q) =
        other_end all refl (λ x. e (ap (get_elem? (line_keys (lines_from n proof))) place ∙ x))
        (ap checked_answer q ∙ ap (λ (j : ℕ). refused_by (record { number = 10; input = 3; place = j }) []) place)
