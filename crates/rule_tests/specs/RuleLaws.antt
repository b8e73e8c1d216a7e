-- Each rule's test as the code comes to it: the parts of a test that are functions of their own, and a law for each return that is not
-- just the next test.
use Rattle.std.specs.Prelude.{ℕ, zero, suc, ◌+◌, ◌-◌, ◌<◌, ◌≤◌, Bool, false, ◌&&◌, ◌||◌, T, leb, drop, ◌==◌}
use Rattle.std.specs.List.{starts_with, ends_with}
use Rattle.std.proofs.Math.Path.{◌≡◌, refl, sym, ap}
use Rattle.std.proofs.Common.{ap₂, subst, ◌∙◌, take-append-drop, length-append, length-take, length-drop, take-suc, get_or-drop}
use Rattle.std.proofs.Math.Bool.{true, not}
use mathlib.Core.List.{List, [], ◌∷◌, ◌++◌}
use Rattle.std.proofs.Math.Numerals.{add-one}
use native.Mathlib.Omega.{arith}
use Rattle.std.proofs.Math.Dec.{eqb, eqb-suc-zero}
use Rattle.std.proofs.Math.ListN.{length, get_or, take}
use borrow.Author.Tests.{leb-true, leb-false, ne_eqb}
use borrow.Author.Rules.{part_to_end}
use Rattle.meaning.specs.Lists.{same}
use Rattle.meaning.specs.Paths.{normal, simple, join}
use Rattle.meaning.specs.Keys.{Key}
use Rattle.meaning.specs.Records.{key_in}
use Rattle.meaning.specs.Rules.{with_empty}
use Rattle.theory_lists.specs.Bools.{bool_eq, same_eq, eq_same, and_left, and_right, both, of_true, true_of, false_of}
use Rattle.theory_paths.specs.Normal.{normal_left}
use Rattle.theory_lists.specs.Lists.{with_empty_last}
use Rattle.theory_rule_tests.specs.Beginnings.{begins, begins_split}
use Rattle.theory_rule_tests.specs.SameParts.{same_context, same_sets, sets-eq, eq_sets}
use Rattle.theory_rule_tests.specs.Subnodes.{goes_on, further, only_path, last_path}
use Rattle.theory_rule_tests.specs.Cuts.{ends_path, before_end, starts_any}
use Rattle.theory_rule_tests.specs.Interactions.{prefixed, interaction_test}
use Rattle.rule_joins.specs.Joins.{BothNormal}
use Rattle.read_record.specs.Library.{same_list}
use Rattle.rule_joins.specs.Both.{same_sym}
use Rattle.rule_tests.specs.Walks.{begins_lib}
use Rattle.rule_tests.specs.SetBytes.{TwoKeys, LineKey, LineKeys}

-- T goes on behind the new target
pub record Further (p k : List ℕ) : Type 0 where
  pub keys : TwoKeys p k
  pub long : length (key_in k).target ≤ length (key_in p).target

pub goes_on_long : (p k : List ℕ) → TwoKeys p k → {r : Bool} → r ≡ goes_on (key_in p) (key_in k) → r ≡ true → Further p k
unfolding goes_on
goes_on_long p k h e t =
    let b = begins_split (key_in k).target (key_in p).target
    (and_left (begins (key_in k).target (key_in p).target) (simple (further (key_in p) (key_in k))) (of_true _ (sym e ∙ t))) in
    record { keys = h; long = omega (arith, ap length b, length-append (key_in k).target (drop (length (key_in k).target) (key_in p).target)) }

pub goes_on_rest : (p k : Key) {whole front : List ℕ} → whole ≡ p.target → front ≡ k.target → {r : Bool} → r ≡ starts_with ◌==◌ whole front → r ≡ true
    → {s : Bool} → s ≡ simple (take (length whole - length front) (drop (length front) whole)) → s ≡ goes_on p k
unfolding goes_on further
goes_on_rest p k {whole} {front} w f e t q =
    q ∙ ap simple (part_to_end whole (length front)) ∙ ap₂ (λ (a b : List ℕ). simple (drop (length a) b)) f w
    ∙ sym (rw (sym (ap₂ begins f w) ∙ sym (begins_lib whole front) ∙ sym e ∙ t))

-- rule 4, the sets
unfoldable pub longer_only : Key → Key → Bool
longer_only p k = same_sets p.paths (only_path p ∷ []) && same_sets k.paths ((further p k ++ only_path p) ∷ [])

and-true : (a : Bool) → (a && true) ≡ a
and-true true = refl
and-true false = refl

and-false : (a : Bool) → (a && false) ≡ false
and-false true = refl
and-false false = refl

pub rest_is : (l : List ℕ) (n : ℕ) → take (length l - n) (drop n l) ≡ drop n l
rest_is l n = part_to_end l n

one_test : (ps : List (List ℕ)) (q : List ℕ) → same_sets ps (q ∷ []) ≡ (eqb (length ps) 1 && same (get_or ps 0 []) q)
unfolding same_sets
one_test [] q = refl
one_test (p ∷ []) q = and-true (same p q)
one_test (p ∷ r ∷ ps) q =
    and-false (same p q) ∙ sym (ap (λ (b : Bool). b && same p q) (ne_eqb (suc (suc (length ps))) 1 (λ e. absurd (omega arith))))

pub longer_is : (p k : Key)
    → longer_only p k ≡ (eqb (length p.paths) 1 && (eqb (length k.paths) 1 && same (get_or k.paths 0 []) (drop (length k.target) p.target ++ get_or p.paths 0 [])))
unfolding longer_only further only_path
longer_is p k =
    ap₂ ◌&&◌
    (one_test p.paths (get_or p.paths 0 []) ∙ ap (λ (b : Bool). eqb (length p.paths) 1 && b) (true_of _ (eq_same _ _ refl)) ∙ and-true _)
    (one_test k.paths (drop (length k.target) p.target ++ get_or p.paths 0 []))

-- rule 8, the sets
unfoldable pub longer_last : Key → Key → Bool
longer_last p k = same_sets p.paths (with_empty (last_path p)) && same_sets k.paths (with_empty (further p k ++ last_path p))

-- a set is {empty, x} exactly where it is {empty, its last} and its last is x
ends_with_empty : (k : Key) (x : List ℕ) → same_sets k.paths (with_empty x) ≡ (same_sets k.paths (with_empty (last_path k)) && same (last_path k) x)
unfolding last_path
ends_with_empty k x =
    bool_eq _ _
    (λ t.
    let e = sets-eq k.paths (with_empty x) t in
    let l : get_or k.paths (length k.paths - 1) [] ≡ x = ap (λ (ps : List (List ℕ)). get_or ps (length ps - 1) []) e ∙ with_empty_last x in
    both (same_sets k.paths (with_empty (last_path k))) (same (last_path k) x) (eq_sets _ _ (e ∙ ap with_empty (sym l))) (eq_same _ _ l))
    (λ t.
    eq_sets _ _
    (sets-eq k.paths (with_empty (last_path k)) (and_left (same_sets k.paths (with_empty (last_path k))) (same (last_path k) x) t)
    ∙ ap with_empty (same_eq (last_path k) x (and_right (same_sets k.paths (with_empty (last_path k))) (same (last_path k) x) t))))

module _ (p k : Key) where
  pub last_old : {r : Bool} → r ≡ same_sets p.paths (with_empty (last_path p)) → r ≡ false → false ≡ longer_last p k
  unfolding longer_last
  last_old e t = rw (sym e ∙ t)

  module _ {r : Bool} (e : r ≡ same_sets p.paths (with_empty (last_path p))) (t : r ≡ true) {s : Bool} (g : s ≡ same_sets k.paths (with_empty (last_path k))) where
    pub last_new : s ≡ false → false ≡ longer_last p k
    unfolding longer_last
    last_new h = rw (sym e ∙ t, ends_with_empty k (further p k ++ last_path p), sym g ∙ h)

    pub last_both : s ≡ true → {front whole new old : List ℕ} → front ≡ k.target → whole ≡ p.target → new ≡ last_path k → old ≡ last_path p
        → {b : Bool} → b ≡ same new (take (length whole - length front) (drop (length front) whole) ++ old) → b ≡ longer_last p k
    unfolding longer_last further
    last_both h {front} {whole} {new} {old} f w a o {b} q =
        q ∙ ap (λ (l : List ℕ). same new (l ++ old)) (part_to_end whole (length front)) ∙ parts ∙ sym tested
      where
        parts : same new (drop (length front) whole ++ old) ≡ same (last_path k) (drop (length k.target) p.target ++ last_path p)
        parts = ap₂ same a (ap₂ ◌++◌ (ap₂ (λ (x y : List ℕ). drop (length x) y) f w) o)

        tested : longer_last p k ≡ same (last_path k) (drop (length k.target) p.target ++ last_path p)
        tested = rw (sym e ∙ t, ends_with_empty k (drop (length k.target) p.target ++ last_path p), sym g ∙ h)

two_paths : (y : ℕ) (r : List ℕ) → [] ∷ (y ∷ r) ∷ [] ≡ with_empty (y ∷ r)
unfolding with_empty
two_paths y r = refl

module _ (b : Key) {n : ℕ} (e : n ≡ length b.paths) where
  pub with_empty_one : n ≡ 1 → {l : List ℕ} → l ≡ get_or b.paths 0 [] → eqb (length l) 0 ≡ same_sets b.paths (with_empty (last_path b))
  unfolding last_path
  with_empty_one t {l} h = go b.paths (sym e ∙ t) h
    where
      go : (ps : List (List ℕ)) → length ps ≡ 1 → l ≡ get_or ps 0 [] → eqb (length l) 0 ≡ same_sets ps (with_empty (get_or ps (length ps - 1) []))
      go [] q h = absurd (omega arith)
      go ([] ∷ []) q h = rw h (unfold same_sets with_empty same in refl)
      go ((x ∷ p) ∷ []) q h = rw h (eqb-suc-zero (length p) ∙ (unfold same_sets with_empty same in refl))
      go (p ∷ r ∷ ps) q h = absurd (omega arith)

  pub with_empty_many : (n ≡ 1 → ⊥) → (n ≡ 2 → ⊥) → false ≡ same_sets b.paths (with_empty (last_path b))
  unfolding last_path
  with_empty_many t u =
      sym (false_of _ (λ s. sizes (last_path b) (sym (ap length (sets-eq _ _ s)))))
    where
      sizes : (x : List ℕ) → length (with_empty x) ≡ length b.paths → ⊥
      sizes [] q = t (e ∙ sym q ∙ (unfold with_empty in refl))
      sizes (y ∷ x) q = u (e ∙ sym q ∙ (unfold with_empty in refl))

  pub with_empty_other : n ≡ 2 → {l : List ℕ} → l ≡ get_or b.paths 0 [] → (length l ≡ 0 → ⊥) → eqb (length l) 0 ≡ same_sets b.paths (with_empty (last_path b))
  unfolding last_path
  with_empty_other t {l} h u =
      ne_eqb (length l) 0 u ∙ sym (false_of _ (λ s. u (ap length (h ∙ ap (λ (ps : List (List ℕ)). get_or ps 0 []) (sets-eq _ _ s) ∙ first (get_or b.paths (length b.paths - 1) [])))))
    where
      first : (x : List ℕ) → get_or (with_empty x) 0 [] ≡ []
      first [] = unfold with_empty in refl
      first (y ∷ x) = unfold with_empty in refl

  pub with_empty_two : n ≡ 2 → {l : List ℕ} → l ≡ get_or b.paths 0 [] → length l ≡ 0 → {m : List ℕ} → m ≡ get_or b.paths 1 []
      → not (eqb (length m) 0) ≡ same_sets b.paths (with_empty (last_path b))
  unfolding last_path
  with_empty_two t {l} h u {m} g = go b.paths (sym e ∙ t) h g
    where
      go : (ps : List (List ℕ)) → length ps ≡ 2 → l ≡ get_or ps 0 [] → m ≡ get_or ps 1 []
          → not (eqb (length m) 0) ≡ same_sets ps (with_empty (get_or ps (length ps - 1) []))
      go [] q h g = absurd (omega arith)
      go (p ∷ []) q h g = absurd (omega arith)
      go ((x ∷ p) ∷ r ∷ []) q h g = absurd (omega (arith, ap length h))
      go ([] ∷ [] ∷ []) q h g = rw g (unfold same_sets with_empty same in refl)
      go ([] ∷ (y ∷ r) ∷ []) q h g = rw (g, eqb-suc-zero (length r)) (sym (true_of _ (eq_sets ([] ∷ (y ∷ r) ∷ []) (with_empty (y ∷ r)) (two_paths y r))))
      go (p ∷ r ∷ o ∷ ps) q h g = absurd (omega arith)

with_empty_length : (x : List ℕ) → 0 < length (with_empty x)
unfolding with_empty
with_empty_length [] = omega arith
with_empty_length (y ∷ x) = omega arith

pub with_empty_some : (b : Key) {r : Bool} → r ≡ same_sets b.paths (with_empty (last_path b)) → r ≡ true → 0 < length b.paths
with_empty_some b e t =
    let q = ap length (sets-eq b.paths (with_empty (last_path b)) (of_true _ (sym e ∙ t))) in
    omega (arith, with_empty_length (last_path b))

pub further_fits : {p k : List ℕ} → Further p k → {front whole : List ℕ} → front ≡ (key_in k).target → whole ≡ (key_in p).target → length front ≤ length whole
further_fits h f w = omega (arith, h.long, ap length f, ap length w)

-- rule 7
pub record Cut (p k : List ℕ) : Type 0 where
  pub keys : LineKeys p k
  pub ends : ends_path (key_in p).target (key_in k).target ≡ true

unfoldable pub cut_context : Key → Key → Bool
cut_context p k =
    same k.context (join p.context (before_end p.target k.target))
    || starts_any k.target && same k.context (join p.context (before_end p.target k.target ++ (0 ∷ [])))

-- .. by the library's test
pub ends_lib : (whole end : List ℕ) → ends_with ◌==◌ whole end ≡ ends_path whole end
unfolding ends_path
ends_lib whole end = go (leb (length end) (length whole)) refl
  where
    part : List ℕ
    part = drop (length whole - length end) whole

    whole_part : ends_with ◌==◌ whole end ≡ same part end
    whole_part = same_list end part ∙ same_sym end part

    go : (b : Bool) → leb (length end) (length whole) ≡ b → ends_with ◌==◌ whole end ≡ (b && same part end)
    go true e = whole_part
    go false e =
        whole_part
        ∙ false_of _ (λ t. let n = ap length (same_eq part end t) in let h = leb-false _ _ e in absurd (omega (arith, length-drop {A = ℕ})))

module _ {p k : List ℕ} (c : Cut p k) where
  pub cut_long : length (key_in k).target ≤ length (key_in p).target
  unfolding ends_path
  cut_long =
      leb-true _ _
      (true_of (leb (length (key_in k).target) (length (key_in p).target))
      (and_left (leb (length (key_in k).target) (length (key_in p).target)) _ (of_true _ c.ends)))

  pub cut_sub : {whole end : List ℕ} → whole ≡ (key_in p).target → end ≡ (key_in k).target → length end ≤ length whole
  cut_sub w f = omega (arith, cut_long, ap length w, ap length f)

  cut_end : drop (length (key_in p).target - length (key_in k).target) (key_in p).target ≡ (key_in k).target
  unfolding ends_path
  cut_end = same_eq _ _ (and_right (leb (length (key_in k).target) (length (key_in p).target)) _ (of_true _ c.ends))

  pub cut_normal : (n : ℕ) {old whole : List ℕ} → old ≡ (key_in p).context → whole ≡ (key_in p).target → BothNormal old (take n whole)
  cut_normal n o w =
      record {
        first = subst (λ (l : List ℕ). T (normal l)) (sym o) c.keys.first.context_normal;
        second =
            normal_left (take n _) (drop n _)
            (subst (λ (l : List ℕ). T (normal l)) (sym w ∙ sym (take-append-drop n _)) c.keys.first.target_normal);
      }

  module _ {whole end new old : List ℕ} (w : whole ≡ (key_in p).target) (f : end ≡ (key_in k).target) (a : new ≡ (key_in k).context) (o : old ≡ (key_in p).context)
      {r : Bool} (q : r ≡ same (join old (take (length whole - length end) whole)) new) where
    first : same (key_in k).context (join (key_in p).context (before_end (key_in p).target (key_in k).target)) ≡ r
    unfolding before_end
    first = sym (q ∙ same_sym (join old (take (length whole - length end) whole)) new ∙ (rw (w, f, a, o)))

    pub cut_first : r ≡ true → r ≡ cut_context (key_in p) (key_in k)
    unfolding cut_context
    cut_first t = t ∙ rw (first ∙ t)

    pub cut_none : r ≡ false → {s : Bool} → s ≡ starts_any end → s ≡ false → s ≡ cut_context (key_in p) (key_in k)
    unfolding cut_context
    cut_none t e h = h ∙ rw (first ∙ t, sym (e ∙ ap starts_any f) ∙ h)

    starts_cons : (l : List ℕ) → starts_any l ≡ true → get_or l 0 0 ≡ 0
    unfolding starts_any
    starts_cons [] e = refl
    starts_cons (zero ∷ l) e = refl
    starts_cons (suc s ∷ l) e = absurd (let z : ◌≡◌ {A = ℕ} 0 1 = cc in omega arith)

    starts_some : (l : List ℕ) → starts_any l ≡ true → 0 < length l
    unfolding starts_any
    starts_some [] e = absurd (let z : ◌≡◌ {A = ℕ} 0 1 = cc in omega arith)
    starts_some (s ∷ l) e = omega arith

    pub cut_within : {s : Bool} → s ≡ starts_any end → s ≡ true
        → length whole - length end + 1 ≡ length (take (length whole - length end + 1) whole)
    cut_within e h =
        let m : length whole - length end + 1 ≤ length whole =
        omega (arith, cut_long, starts_some end (sym e ∙ h), ap length w, ap length f) in
        simp length-take (omega arith)

    more_is : starts_any (key_in k).target ≡ true
        → take (length (key_in p).target - length (key_in k).target + 1) (key_in p).target ≡ before_end (key_in p).target (key_in k).target ++ (0 ∷ [])
    unfolding before_end
    more_is e =
        let n = length (key_in p).target - length (key_in k).target in
        let h : n < length (key_in p).target = omega (arith, cut_long, starts_some (key_in k).target e) in
        let z : n ≡ n + 0 = omega arith in
        let d : get_or (key_in p).target n 0 ≡ 0 =
        ap (λ (m : ℕ). get_or (key_in p).target m 0) z ∙ sym (get_or-drop n (key_in p).target 0 0) ∙ ap (λ (l : List ℕ). get_or l 0 0) cut_end
        ∙ starts_cons (key_in k).target e in
        rw add-one (take-suc (key_in p).target n 0 h ∙ ap (λ (s : ℕ). take n (key_in p).target ++ (s ∷ [])) d)

    pub cut_second : r ≡ false → {s : Bool} → s ≡ starts_any end → s ≡ true
        → {b : Bool} → b ≡ same (join old (take (length whole - length end + 1) whole)) new → b ≡ cut_context (key_in p) (key_in k)
    unfolding cut_context
    cut_second t e h g =
        let st : starts_any (key_in k).target ≡ true = sym (e ∙ ap starts_any f) ∙ h in
        g ∙ same_sym (join old (take (length whole - length end + 1) whole)) new ∙ (rw (first ∙ t, st, sym (more_is st), w, f, a, o))

-- rule 9
unfoldable pub premises_meet : Key → Key → Bool
premises_meet p r =
    simple r.target && (same_sets p.paths (prefixed r.target r.paths) && same r.context (join p.context p.target))

unfoldable pub concludes : Key → Key → Key → Bool
concludes p r k = same_context p k && (same k.target (p.target ++ r.target) && same_sets k.paths r.paths)

pub normal_parts : {p : List ℕ} → LineKey p → {front back : List ℕ} → front ≡ (key_in p).context → back ≡ (key_in p).target → BothNormal front back
normal_parts h f b =
    record {
      first = subst (λ (l : List ℕ). T (normal l)) (sym f) h.context_normal;
      second = subst (λ (l : List ℕ). T (normal l)) (sym b) h.target_normal;
    }

and_six : (a b c d : Bool) → ((a && (b && c)) && d) ≡ (a && (b && (c && d)))
and_six true true c d = refl
and_six true false c d = refl
and_six false b c d = refl

pub interaction_parts : (p r k : Key) → (premises_meet p r && concludes p r k) ≡ interaction_test p r k
unfolding premises_meet concludes interaction_test
interaction_parts p r k =
    and_six (simple r.target) (same_sets p.paths (prefixed r.target r.paths)) (same r.context (join p.context p.target))
    (concludes p r k)
