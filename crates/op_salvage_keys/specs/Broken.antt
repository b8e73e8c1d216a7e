-- The lines of the keys that a tree breaks, one key after the other.
use Rattle.std.specs.Prelude.{ℕ, zero, suc, ◌+◌, ◌*◌, ◌≤◌, ◌≡◌, refl, Option, None, Some, List, [], ◌∷◌, ◌++◌, length}
use Rattle.std.proofs.Common.{sym, ◌∙◌, subst, append_assoc, append-nil, arith, add-one, length-append}
use Rattle.std.proofs.Math.Path.{ap}
use Rattle.meaning.specs.Paths.{Class}
use Rattle.meaning.specs.Trees.{Table}
use Rattle.meaning.specs.Keys.{Key, Keeps}
use Rattle.meaning.specs.Records.{record_body, key_in}
use Rattle.meaning.specs.Operations.{records_from}
use Rattle.meaning.specs.Salvage.{BrokenLines, judged_all, keeps_one, breaks_one, broken_line}
use Rattle.op_answers.specs.declared.Witness.{Witness}
use Rattle.op_answers.specs.Cases.{numbers_of}
use Rattle.tree_sorted.specs.GoodKey.{GoodKey}
use Rattle.op_tree_keys.specs.ProfileKeys.{KeyTested, key_body_at}
use Rattle.write_salvage.specs.Blocks.{Window, Puts, puts_nothing}

-- the line of key n: none where it is kept
unfoldable pub tested_lines : ℕ → Option Witness → List (List ℕ)
tested_lines n None = []
tested_lines n (Some w) = broken_line n (numbers_of w) ∷ []

-- the first n keys, where the profile's keys begin
unfoldable pub keys_to : List ℕ → ℕ → List Key
keys_to part zero = []
keys_to part (suc n) = keys_to part n ++ (key_in (key_body_at part n) ∷ [])

pub keys_count : (part : List ℕ) (n : ℕ) → length (keys_to part n) ≡ n
unfolding keys_to
keys_count part zero = refl
keys_count part (suc n) =
    let e = length-append (keys_to part n) (key_in (key_body_at part n) ∷ []) in
    let ih = keys_count part n in
    omega arith

lines_few : (n : ℕ) (tested : Option Witness) → length (tested_lines n tested) ≤ 1
unfolding tested_lines
lines_few n None = omega arith
lines_few n (Some w) = omega arith

-- one key more
broken_more : {κ : ℕ → Class} {t : Table} (m : ℕ) {keys : List Key} {lines : List (List ℕ)} → BrokenLines κ t m keys lines → (key : Key) (tested : Option Witness)
    → KeyTested κ t key tested → BrokenLines κ t m (keys ++ (key ∷ [])) (lines ++ tested_lines (m + length keys) tested)
unfolding Keeps tested_lines
broken_more {κ} {t} m judged_all key tested k = go tested k
  where
    go : (tested : Option Witness) → KeyTested κ t key tested → BrokenLines κ t m (key ∷ []) (tested_lines (m + 0) tested)
    go None h = keeps_one h judged_all
    go (Some w) h =
        let e : m ≡ m + 0 = omega arith in
        subst (λ (n : ℕ). BrokenLines κ t m (key ∷ []) (broken_line n (numbers_of w) ∷ [])) e (breaks_one (numbers_of w) h.first judged_all)
broken_more {κ} {t} m (keeps_one {key = first} {keys} {lines} h p) key tested k =
    let e : suc m + length keys ≡ m + suc (length keys) = omega arith in
    keeps_one h
    (subst (λ (n : ℕ). BrokenLines κ t (suc m) (keys ++ (key ∷ [])) (lines ++ tested_lines n tested)) e (broken_more (suc m) p key tested k))
broken_more {κ} {t} m (breaks_one {key = first} {keys} {lines} numbers w p) key tested k =
    let e : suc m + length keys ≡ m + suc (length keys) = omega arith in
    breaks_one numbers w
    (subst (λ (n : ℕ). BrokenLines κ t (suc m) (keys ++ (key ∷ [])) (lines ++ tested_lines n tested)) e (broken_more (suc m) p key tested k))

-- The first n keys are judged, and their lines are put behind those before
pub record KeysTold (κ : ℕ → Class) (t : Table) (part : List ℕ) (n : ℕ) (out₀ out : List ℕ) (start at₀ count₀ at count : ℕ) : Type 0 where
  pub broken : List (List ℕ)
  pub judged : BrokenLines κ t 0 (keys_to part n) broken
  pub goes : (entry : List ℕ) (lines : List (List ℕ)) → Window entry out₀ start lines at₀ count₀ 0 → Window entry out start (lines ++ broken) at count (217 * n)
  pub grows : at ≤ at₀ + 259 * n
  pub counts : count ≤ count₀ + n
  pub few : length broken ≤ n

pub told_none : (κ : ℕ → Class) (t : Table) (part out : List ℕ) (start at count : ℕ) → KeysTold κ t part 0 out out start at count at count
unfolding keys_to
told_none κ t part out start at count =
    record {
      broken = [];
      judged = judged_all;
      goes = λ entry lines w. subst (λ (l : List (List ℕ)). Window entry out start l at count 0) (sym (append-nil lines)) w;
      grows = omega arith;
      counts = omega arith;
      few = omega arith;
    }

pub told_more : {κ : ℕ → Class} {t : Table} {part out₀ mid end : List ℕ} {start at₀ count₀ at count next count' : ℕ} (n : ℕ)
    → KeysTold κ t part n out₀ mid start at₀ count₀ at count → (tested : Option Witness) → KeyTested κ t (key_in (key_body_at part n)) tested
    → Puts mid end start at count (tested_lines n tested) next count' 217 → KeysTold κ t part (n + 1) out₀ end start at₀ count₀ next count'
unfolding keys_to
told_more {κ} {t} {part} {out₀} {mid} {end} {start} {at₀} {count₀} {at} {count} {next} {count'} n s tested k p =
    let e = keys_count part n in
    let here : 0 + length (keys_to part n) ≡ n = omega arith in
    let g = s.grows in
    let h = p.grows in
    let f = s.few in
    let l = lines_few n tested in
    let c = s.counts in
    let d = p.counts in
    let both = length-append s.broken (tested_lines n tested) in
    let spare : 217 * n + 217 ≡ 217 * (n + 1) = omega arith in
    record {
      broken = s.broken ++ tested_lines n tested;
      judged = subst (λ (m : ℕ). BrokenLines κ t 0 (keys_to part m) (s.broken ++ tested_lines n tested)) (sym (add-one n))
          (subst (λ (m : ℕ). BrokenLines κ t 0 (keys_to part (suc n)) (s.broken ++ tested_lines m tested)) here
          (broken_more 0 s.judged (key_in (key_body_at part n)) tested k));
      goes = λ entry lines w.
          subst (λ (m : ℕ). Window entry end start (lines ++ (s.broken ++ tested_lines n tested)) next count' m) spare
          (subst (λ (x : List (List ℕ)). Window entry end start x next count' (217 * n + 217)) (append_assoc lines s.broken (tested_lines n tested))
          (p.goes entry (lines ++ s.broken) (217 * n) (s.goes entry lines w)));
      grows = omega arith;
      counts = omega arith;
      few = omega arith;
    }

pub tested_none : (mid : List ℕ) (start at count n : ℕ) {tested : Option Witness} → tested ≡ None → Puts mid mid start at count (tested_lines n tested) at count 217
unfolding tested_lines
tested_none mid start at count n e =
    subst (λ (x : Option Witness). Puts mid mid start at count (tested_lines n x) at count 217) (sym e) (puts_nothing mid start at count 217)

pub tested_one : {mid end : List ℕ} {at next count' : ℕ} (start count n : ℕ) {tested : Option Witness} {w : Witness} → tested ≡ Some w
    → Puts mid end start at count (broken_line n (numbers_of w) ∷ []) next count' 217 → Puts mid end start at count (tested_lines n tested) next count' 217
unfolding tested_lines
tested_one {mid} {end} {at} {next} {count'} start count n e p =
    subst (λ (x : Option Witness). Puts mid end start at count (tested_lines n x) next count' 217) (sym e) p

-- a key by its body in the profile
module _ (part : List ℕ) (n : ℕ) {rest body : List ℕ} (is_rest : rest ≡ records_from n part) (is_body : body ≡ record_body rest) where
  body_is : body ≡ key_body_at part n
  unfolding key_body_at
  body_is = is_body ∙ ap record_body is_rest

  pub key_good : GoodKey (key_body_at part n) → GoodKey body
  key_good g = subst GoodKey (sym body_is) g

  pub key_judged : (κ : ℕ → Class) (t : Table) (tested : Option Witness) → KeyTested κ t (key_in body) tested → KeyTested κ t (key_in (key_body_at part n)) tested
  key_judged κ t tested k = subst (λ (b : List ℕ). KeyTested κ t (key_in b) tested) body_is k

-- all keys
pub told_all : {κ : ℕ → Class} {t : Table} {part out₀ out : List ℕ} {start at₀ count₀ at count : ℕ} (n keys : ℕ) → n ≤ keys → keys ≤ n
    → KeysTold κ t part n out₀ out start at₀ count₀ at count → KeysTold κ t part keys out₀ out start at₀ count₀ at count
told_all {κ} {t} {part} {out₀} {out} {start} {at₀} {count₀} {at} {count} n keys h g k =
    let e : n ≡ keys = omega arith in
    subst (λ (m : ℕ). KeysTold κ t part m out₀ out start at₀ count₀ at count) e k
