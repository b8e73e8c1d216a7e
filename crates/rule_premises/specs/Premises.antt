-- The premises of a line where they stand: the keys of a part of a profile, the lines at the front of a proof; and a law for each return.
use Prim.Native.Nat.{ℕ, zero, suc, ◌+◌, ◌-◌, ◌<◌, ◌≤◌}
use Rattle.std.specs.Prelude.{◌≡◌, Bool, ◌&&◌, get_or, drop, ltb, ◌==◌}
use Rattle.std.specs.Cmp.Lexicographic.{pointwise}
use Rattle.read_record.specs.Library.{same_list}
use Rattle.std.proofs.Math.Path.{refl, sym, ap}
use Rattle.std.proofs.Common.{subst, ◌∙◌, arith}
use Rattle.std.proofs.Math.Bool.{true, false}
use mathlib.Core.List.{List, [], ◌∷◌}
use Rattle.std.proofs.Math.Option.{Option, none, some}
use Rattle.std.proofs.Math.Dec.{eqb, eqb-suc-zero}
use Rattle.std.proofs.Math.ListN.{length, take, get_elem?}
use borrow.Author.Tests.{eq-eqb, ne_eqb, le-ltb}
use borrow.Author.Rules.{part_to_end}
use Rattle.meaning.specs.Lists.{is_empty, same}
use Rattle.meaning.specs.Keys.{Key}
use Rattle.meaning.specs.Records.{word, record_length, record_body, read_key, key_in, is_some, read_line, key_body}
use Rattle.meaning.specs.Rules.{Line, line_keys}
use Rattle.meaning.specs.Operations.{records_from}
use Rattle.theory_lists.specs.Bools.{bool_eq, same_eq, eq_same}
use Rattle.theory_rule_tests.specs.SameParts.{prefix_epsilon_test, superkey_test, context_path_test, target_path_test}
use Rattle.theory_rule_tests.specs.Subnodes.{subnodes_test, subnodes_epsilon_test}
use Rattle.theory_rule_tests.specs.Cuts.{context_target_test}
use Rattle.theory_rule_tests.specs.Interactions.{interaction_test}
use Rattle.theory_rule_tests.specs.LineTest.{same_key, same_key_eq, eq_same_key, on_premise, unused, rule_test, follows_test}
use Rattle.theory_records.specs.KeyBodies.{key_in_written}
use Rattle.theory_records.specs.KeyPlaces.{keys_from, KeyRecord, key_shape, KeyRecords, key_at, key_none}
use Rattle.read_entry.specs.Keys.{line_key_part}
use Rattle.rule_tests.specs.SetBytes.{LineKey, LineKeys}

-- so many lines from here on
unfoldable pub lines_from : ℕ → List ℕ → List Line
lines_from zero l = []
lines_from (suc n) l = read_line (record_body l) ∷ lines_from n (drop (record_length l) l)

-- a line that was read
pub record LineRecord (l : List ℕ) : Type 0 where
  pub long : 9 ≤ record_length l
  pub within : record_length l ≤ length l
  pub key : LineKey (drop 5 (record_body l))

pub record Earlier (n : ℕ) (l : List ℕ) : Type 0 where
  pub each : (i : ℕ) → i < n → LineRecord (records_from i l)

-- the body of a line
pub record LineBody (body : List ℕ) : Type 0 where
  pub long : 5 ≤ length body
  pub key : LineKey (drop 5 body)

pub line_at : (n i : ℕ) (l : List ℕ) → i < n → get_elem? (line_keys (lines_from n l)) i ≡ some (key_in (drop 5 (record_body (records_from i l))))
unfolding lines_from records_from line_keys read_line
line_at zero i l h = absurd (omega arith)
line_at (suc n) zero l h = refl
line_at (suc n) (suc i) l h = line_at n i (drop (record_length l) l) (omega arith)

pub line_none : (n i : ℕ) (l : List ℕ) → n ≤ i → get_elem? (line_keys (lines_from n l)) i ≡ none
unfolding lines_from line_keys
line_none zero i l h = refl
line_none (suc n) zero l h = absurd (omega arith)
line_none (suc n) (suc i) l h = line_none n i (drop (record_length l) l) (omega arith)

-- rules of one premise by their number; false for the others
unfoldable pub one_test : ℕ → Key → Key → Bool
one_test zero p k = false
one_test (suc zero) p k = false
one_test (suc (suc zero)) p k = prefix_epsilon_test p k
one_test (suc (suc (suc zero))) p k = superkey_test p k
one_test (suc (suc (suc (suc zero)))) p k = subnodes_test p k
one_test (suc (suc (suc (suc (suc zero))))) p k = context_path_test p k
one_test (suc (suc (suc (suc (suc (suc zero)))))) p k = target_path_test p k
one_test (suc (suc (suc (suc (suc (suc (suc zero))))))) p k = context_target_test p k
one_test (suc (suc (suc (suc (suc (suc (suc (suc zero)))))))) p k = subnodes_epsilon_test p k
one_test (suc (suc (suc (suc (suc (suc (suc (suc (suc n))))))))) p k = false

unfoldable pub cited : List Key → ℕ → Key → Bool
cited keys first k = on_premise (get_elem? keys first) (λ (c : Key). same_key c k)

unfoldable pub by_one : List Key → ℕ → ℕ → Key → Bool
by_one earlier rule first k = on_premise (get_elem? earlier first) (λ (p : Key). one_test rule p k)

unfoldable pub by_two : List Key → ℕ → ℕ → Key → Bool
by_two earlier first second k =
    on_premise (get_elem? earlier first) (λ (p : Key). on_premise (get_elem? earlier second) (λ (r : Key). interaction_test p r k))

-- equal keys are equal bodies
bodies_same : (a b : List ℕ) → is_some (read_key a) ≡ true → is_some (read_key b) ≡ true → same a b ≡ same_key (key_in a) (key_in b)
bodies_same a b ea eb =
    bool_eq _ _ (λ t. eq_same_key (key_in a) (key_in b) (ap key_in (same_eq a b t)))
    (λ t. eq_same a b (sym (key_in_written a ea) ∙ ap key_body (same_key_eq (key_in a) (key_in b) t) ∙ key_in_written b eb))

module _ (keys first : ℕ) (part k : List ℕ) where
  pub cites_none : keys ≤ first → ltb first keys ≡ cited (keys_from keys part) first (key_in k)
  unfolding cited on_premise
  cites_none h = le-ltb first keys h ∙ rw (key_none keys first part h)

  pub cites_some : KeyRecords keys part → is_some (read_key k) ≡ true → first < keys → {body : List ℕ} → body ≡ record_body (records_from first part)
      → {r : Bool} → r ≡ pointwise ◌==◌ body k → r ≡ cited (keys_from keys part) first (key_in k)
  unfolding cited on_premise
  cites_some h e i q g =
      g ∙ same_list _ k ∙ ap (λ (l : List ℕ). same l k) q
      ∙ bodies_same (record_body (records_from first part)) k (key_shape (h.each first i)) e
      ∙ rw (key_at keys first part i)

-- where a record stands, its length and its end
module _ {l : List ℕ} (r : KeyRecord l) {rest : List ℕ} (e : rest ≡ l) where
  pub cite_head : 0 + 1 < length rest
  cite_head = omega (arith, r.is_whole.long, r.is_whole.within, ap length e)

  pub cite_start : {end : ℕ} → end ≡ word rest 0 → 4 ≤ end
  unfolding record_length
  cite_start f = omega (arith, r.is_whole.long, ap (λ (m : List ℕ). word m 0) e)

  pub cite_end : {end : ℕ} → end ≡ word rest 0 → end ≤ length rest
  unfolding record_length
  cite_end f = omega (arith, r.is_whole.within, ap (λ (m : List ℕ). word m 0) e, ap length e)

  pub cite_is : {end : ℕ} → end ≡ word rest 0 → take (end - 4) (drop 4 rest) ≡ record_body l
  unfolding record_body record_length
  cite_is f = ap (λ (j : ℕ). take (j - 4) (drop 4 rest)) f ∙ ap (λ (j : List ℕ). take (word j 0 - 4) (drop 4 j)) e

module _ {l : List ℕ} (r : LineRecord l) {rest : List ℕ} (e : rest ≡ l) where
  pub line_head : 0 + 1 < length rest
  line_head = omega (arith, r.long, r.within, ap length e)

  pub line_start : {end : ℕ} → end ≡ word rest 0 → 9 ≤ end
  unfolding record_length
  line_start f = omega (arith, r.long, ap (λ (m : List ℕ). word m 0) e)

  pub line_end : {end : ℕ} → end ≡ word rest 0 → end ≤ length rest
  unfolding record_length
  line_end f = omega (arith, r.within, ap (λ (m : List ℕ). word m 0) e, ap length e)

  pub line_key_is : {end : ℕ} → end ≡ word rest 0 → take (end - 9) (drop 9 rest) ≡ drop 5 (record_body l)
  line_key_is f = line_key_part rest f ∙ ap (λ (m : List ℕ). drop 5 (record_body m)) e

-- one premise, two premises
module _ (number : ℕ) (proof : List ℕ) (k : Key) where
  pub one_none : (rule first : ℕ) → number ≤ first → ltb first number ≡ by_one (line_keys (lines_from number proof)) rule first k
  unfolding by_one on_premise
  one_none rule first h = le-ltb first number h ∙ rw (line_none number first proof h)

  pub one_some : (rule first : ℕ) → first < number → {p : List ℕ} → p ≡ drop 5 (record_body (records_from first proof))
      → {r : Bool} → r ≡ one_test rule (key_in p) k → r ≡ by_one (line_keys (lines_from number proof)) rule first k
  unfolding by_one on_premise
  one_some rule first h e g = g ∙ (rw (line_at number first proof h, ap key_in e))

  none_two : (o : Option Key) → false ≡ on_premise o (λ (p : Key). false)
  unfolding on_premise
  none_two none = refl
  none_two (some p) = refl

  pub two_first : (first second : ℕ) → number ≤ first → false ≡ by_two (line_keys (lines_from number proof)) first second k
  unfolding by_two on_premise
  two_first first second h = rw (line_none number first proof h)

  pub two_second : (first second : ℕ) → number ≤ second → false ≡ by_two (line_keys (lines_from number proof)) first second k
  unfolding by_two on_premise
  two_second first second h = simp (line_none number second proof h) (none_two (get_elem? (line_keys (lines_from number proof)) first))

  pub two_some : (first second : ℕ) → first < number → second < number → {p r : List ℕ} → p ≡ drop 5 (record_body (records_from first proof))
      → r ≡ drop 5 (record_body (records_from second proof)) → {b : Bool} → b ≡ interaction_test (key_in p) (key_in r) k
      → b ≡ by_two (line_keys (lines_from number proof)) first second k
  unfolding by_two on_premise
  two_some first second h i e f g = g ∙ (rw (line_at number first proof h, line_at number second proof i, ap key_in e, ap key_in f))

pub premise_key : {number : ℕ} {proof : List ℕ} → Earlier number proof → {n : ℕ} → n < number → {p : List ℕ} → p ≡ drop 5 (record_body (records_from n proof)) → LineKey p
premise_key e {n} h q = subst LineKey (sym q) (e.each n h).key

pub premise_pair : {number : ℕ} {proof k : List ℕ} → Earlier number proof → LineKey k → {n : ℕ} → n < number → {p : List ℕ}
    → p ≡ drop 5 (record_body (records_from n proof)) → LineKeys p k
premise_pair e g h q = record { first = premise_key e h q; second = g }

-- the whole line
module _ (keys earlier : List Key) (body : List ℕ) {rule first second : ℕ} {k : List ℕ} (is_rule : rule ≡ get_or body 0 0) (is_first : first ≡ word body 1)
    (is_second : second ≡ word body 3) (is_key : k ≡ take (length body - 5) (drop 5 body)) where
  line_is : read_line body ≡ record { rule = rule; first = first; second = second; key = key_in k }
  unfolding read_line
  line_is = rw (is_rule, is_first, is_second, is_key, part_to_end body 5)

  pub follows_two : rule ≡ 9 → {r : Bool} → r ≡ by_two earlier first second (key_in k) → r ≡ follows_test keys earlier (read_line body)
  unfolding follows_test rule_test by_two
  follows_two e h = h ∙ (rw (line_is, e))

  pub follows_cited : rule ≡ 0 → second ≡ 65535 → {r : Bool} → r ≡ cited keys first (key_in k) → r ≡ follows_test keys earlier (read_line body)
  unfolding follows_test rule_test cited unused
  follows_cited e s h = h ∙ (rw (line_is, e, eq-eqb second 65535 s))

  pub follows_epsilon_used : rule ≡ 1 → (first ≡ 65535 → ⊥) → false ≡ follows_test keys earlier (read_line body)
  unfolding follows_test rule_test unused
  follows_epsilon_used e s = rw (line_is, e, ne_eqb first 65535 s)

  pub follows_epsilon : rule ≡ 1 → first ≡ 65535 → second ≡ 65535 → {t : List ℕ} → t ≡ (key_in k).target → eqb (length t) 0 ≡ follows_test keys earlier (read_line body)
  unfolding follows_test rule_test unused
  follows_epsilon e s u {t} h = rw (line_is, e, eq-eqb first 65535 s, eq-eqb second 65535 u, sym h) (empty_length t)
    where
      empty_length : (l : List ℕ) → eqb (length l) 0 ≡ is_empty l
      empty_length [] = unfold is_empty in refl
      empty_length (x ∷ l) = eqb-suc-zero (length l) ∙ (unfold is_empty in refl)

  one_rule : (n : ℕ) → (n ≡ 9 → ⊥) → (n ≡ 0 → ⊥) → (n ≡ 1 → ⊥)
      → rule_test n keys earlier (record { rule = n; first = first; second = second; key = key_in k }) ≡ (unused second && by_one earlier n first (key_in k))
  unfolding rule_test by_one one_test
  one_rule zero a b c = absurd (b refl)
  one_rule (suc zero) a b c = absurd (c refl)
  one_rule (suc (suc zero)) a b c = refl
  one_rule (suc (suc (suc zero))) a b c = refl
  one_rule (suc (suc (suc (suc zero)))) a b c = refl
  one_rule (suc (suc (suc (suc (suc zero))))) a b c = refl
  one_rule (suc (suc (suc (suc (suc (suc zero)))))) a b c = refl
  one_rule (suc (suc (suc (suc (suc (suc (suc zero))))))) a b c = refl
  one_rule (suc (suc (suc (suc (suc (suc (suc (suc zero)))))))) a b c = refl
  one_rule (suc (suc (suc (suc (suc (suc (suc (suc (suc zero))))))))) a b c = absurd (a refl)
  one_rule (suc (suc (suc (suc (suc (suc (suc (suc (suc (suc n)))))))))) a b c = never (unused second) (get_elem? earlier first)
    where
      never : (u : Bool) (o : Option Key) → false ≡ (u && on_premise o (λ (p : Key). false))
      never false o = refl
      never true none = unfold on_premise in refl
      never true (some p) = unfold on_premise in refl

  pub follows_one : (rule ≡ 9 → ⊥) → (rule ≡ 0 → ⊥) → (rule ≡ 1 → ⊥) → second ≡ 65535 → {r : Bool} → r ≡ by_one earlier rule first (key_in k)
      → r ≡ follows_test keys earlier (read_line body)
  unfolding follows_test unused
  follows_one a b c s h = h ∙ (rw (line_is, one_rule rule a b c, eq-eqb second 65535 s))

  used_rule : (second ≡ 65535 → ⊥) → (n : ℕ) → (n ≡ 9 → ⊥)
      → false ≡ rule_test n keys earlier (record { rule = n; first = first; second = second; key = key_in k })
  unfolding rule_test unused
  used_rule s zero a = rw (ne_eqb second 65535 s)
  used_rule s (suc zero) a = rw (ne_eqb second 65535 s) (none (eqb first 65535))
    where
      none : (b : Bool) → false ≡ (b && false)
      none true = refl
      none false = refl
  used_rule s (suc (suc n)) a =
      ap (λ (b : Bool). b && by_one earlier (suc (suc n)) first (key_in k)) (sym (ne_eqb second 65535 s))
      ∙ sym (one_rule (suc (suc n)) a (λ e. absurd (omega arith)) (λ e. absurd (omega arith)))

  pub follows_used : (rule ≡ 9 → ⊥) → (second ≡ 65535 → ⊥) → false ≡ follows_test keys earlier (read_line body)
  unfolding follows_test
  follows_used a s = rw line_is (used_rule s rule a)

-- the two premises of rule 9
pub premise_both : {number : ℕ} {proof : List ℕ} → Earlier number proof → {n m : ℕ} → n < number → m < number → {p r : List ℕ}
    → p ≡ drop 5 (record_body (records_from n proof)) → r ≡ drop 5 (record_body (records_from m proof)) → LineKeys p r
premise_both e h i a b = record { first = premise_key e h a; second = premise_key e i b }

pub earlier_at : {number : ℕ} {proof : List ℕ} → Earlier number proof → {n : ℕ} → n < number → LineRecord (records_from n proof)
earlier_at e {n} h = e.each n h

-- a line with a premise field that its rule does not use
pub used_line : (keys earlier : List Key) (body : List ℕ) {rule second : ℕ} → rule ≡ get_or body 0 0 → second ≡ word body 3 → (rule ≡ 9 → ⊥)
    → (second ≡ 65535 → ⊥) → false ≡ follows_test keys earlier (read_line body)
used_line keys earlier body e s a b = follows_used keys earlier body e refl s refl a b

pub used_epsilon : (keys earlier : List Key) (body : List ℕ) {rule first : ℕ} → rule ≡ get_or body 0 0 → first ≡ word body 1 → rule ≡ 1
    → (first ≡ 65535 → ⊥) → eqb first 65535 ≡ follows_test keys earlier (read_line body)
used_epsilon keys earlier body {rule} {first} e f a b = ne_eqb first 65535 b ∙ follows_epsilon_used keys earlier body e f refl refl a b

-- the key of a line, as the code has it
pub body_key : {body : List ℕ} → LineBody body → {k : List ℕ} → k ≡ take (length body - 5) (drop 5 body) → LineKey k
body_key {body} h e = subst LineKey (sym (e ∙ part_to_end body 5)) h.key

pub body_shape : {body : List ℕ} → LineBody body → {k : List ℕ} → k ≡ take (length body - 5) (drop 5 body) → is_some (read_key k) ≡ true
body_shape h e = (body_key h e).shape

pub earlier_last : {lines : ℕ} {proof : List ℕ} → Earlier lines proof → (lines ≡ 0 → ⊥) → LineRecord (records_from (lines - 1) proof)
earlier_last {lines} e ne = e.each (lines - 1) (omega arith)

-- the laws that a function's returns and its calls cite
pub ruleset cited_bounds = (cite_head, cite_start, cite_end, cite_is)

pub ruleset citation = (cites_none, cites_some)

pub ruleset line_bounds = (line_head, line_start, line_end, line_key_is)

pub ruleset one_premise = (one_none, one_some, premise_pair, earlier_at)

pub ruleset two_premises = (two_first, two_second, two_some, premise_pair, premise_both, earlier_at)

pub ruleset line_returns = (follows_two, used_line, follows_cited, follows_one, used_epsilon, follows_epsilon, body_key, body_shape)
