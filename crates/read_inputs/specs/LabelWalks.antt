-- The labels of a profile from the front, beside the walk of `meaning`: what one label record more does to what the loop knows.
use Rattle.std.specs.Prelude.{ℕ, zero, suc, ◌+◌, ◌*◌, ◌-◌, ◌≤◌, ◌<◌, ◌≡◌, Bool, true, false, cond, ◌&&◌, ◌||◌, not, List, [], ◌∷◌, ◌++◌, eqb, ltb, leb, length, get_or, take, drop, set, replicate}
use Rattle.std.proofs.Math.Path.{refl}
use Rattle.std.proofs.Common.{sym, subst, ap, ap₂, ◌∙◌, arith, add-zero, add-suc, add-one, length-drop, length-set, get_or-set_same, get_or-set_other}
use borrow.Author.Tests.{eqb-true, eqb-false, eq-eqb, ne_eqb, ltb-true, lt-ltb, leb-true, not-true, not-false}
use borrow.Author.Rules.{part_to_end}
use Rattle.std.proofs.lemmas.List.{length-replicate}
use Rattle.meaning.specs.Lists.{every, any, same, is_empty}
use Rattle.meaning.specs.Paths.{Label, Class, element, attribute, is_attribute, declared, declared_class}
use Rattle.meaning.specs.Records.{word, record_length, record_kind, record_body, read_label}
use Rattle.meaning.specs.Refusals.{in_profile_order, walk, first_of, whole, is_name, good_label, Profile, no_profile, profile_tests, profile_next}
use Rattle.meaning.specs.Operations.{records_from}
use Rattle.read_record.specs.Classes.{Tabled, entry_of}
use Rattle.theory_records.specs.Tests.{both, never}
use Rattle.theory_records.specs.Heads.{Whole, whole_says, body_length}
use Rattle.theory_records.specs.HeadTests.{body_part}
use Rattle.theory_records.specs.Encodings.{ends_label}
use Rattle.theory_records.specs.Bodies.{records_next}
use Rattle.theory_records.specs.TreeFiles.{body_at}
use Rattle.theory_records.specs.Judged.{profile_label_passes, room_left}
use Rattle.theory_records.specs.Profiles.{profile_long, next_label}
use Rattle.theory_records.specs.Walks.{walk_step, walk_stop}
use Rattle.read_entry.specs.Repeats.{Standing, none, standing_more}
use Rattle.read_entry.specs.Labels.{labels_at, Highest, is_class}
use Rattle.read_entry.specs.Agree.{is_label_record}
use Rattle.read_profile_keys.specs.KeyWalks.{labelled}

-- one record more at the end of the labels read
pub labels_more : (n : ℕ) (l : List ℕ) → labels_at (suc n) l ≡ labels_at n l ++ (read_label (record_body (records_from n l)) ∷ [])
unfolding labels_at records_from
labels_more zero l = refl
labels_more (suc n) l = ap {B = List Label} (λ (k : List Label). read_label (record_body l) ∷ k) (labels_more n (drop (record_length l) l))

every_more : {A : Type 0} (f : A → Bool) (xs : List A) (x : A) → every f (xs ++ (x ∷ [])) ≡ (every f xs && f x)
unfolding every
every_more f [] x = go (f x)
  where
    go : (b : Bool) → (b && true) ≡ b
    go true = refl
    go false = refl
every_more f (y ∷ xs) x = ap (λ (b : Bool). f y && b) (every_more f xs x) ∙ assoc (f y) (every f xs) (f x)
  where
    assoc : (a b c : Bool) → (a && (b && c)) ≡ (a && b && c)
    assoc true b c = refl
    assoc false b c = refl

-- the number of the last label is the highest
pub highest_more : (labels : List Label) (last : ℕ) (x : Label) → Highest labels last → last < x.number → Highest (labels ++ (x ∷ [])) x.number
highest_more labels last x h lt =
    record {
      above = λ n two.
          every_more (λ (k : Label). ltb k.number n) labels x
          ∙ (ap (λ (b : Bool). b && ltb x.number n) (h.above n two) ∙ go n (ltb x.number n) refl);
    }
  where
    go : (n : ℕ) (b : Bool) → ltb x.number n ≡ b → (ltb last n && b) ≡ b
    go n true e = let up : x.number < n = ltb-true _ _ e in rw (lt-ltb last n (omega arith))
    go n false e = and-false (ltb last n)
      where
        and-false : (a : Bool) → (a && false) ≡ false
        and-false true = refl
        and-false false = refl

-- The table with one label more
declared_more : (labels : List Label) (x : Label) (n : ℕ) → declared (labels ++ (x ∷ [])) n ≡ (declared labels n || eqb x.number n)
unfolding declared any
declared_more [] x n = go (eqb x.number n)
  where
    go : (b : Bool) → (b || false) ≡ (false || b)
    go true = refl
    go false = refl
declared_more (k ∷ labels) x n = ap (λ (b : Bool). eqb k.number n || b) (declared_more labels x n) ∙ assoc (eqb k.number n) (declared labels n) (eqb x.number n)
  where
    assoc : (a b c : Bool) → (a || (b || c)) ≡ (a || b || c)
    assoc true b c = refl
    assoc false b c = refl

class_more : (labels : List Label) (x : Label) (n : ℕ) → declared labels n ≡ false
    → declared_class (labels ++ (x ∷ [])) n ≡ declared_class (x ∷ []) n
unfolding declared any declared_class
class_more [] x n e = refl
class_more (k ∷ labels) x n e = go (eqb k.number n) e (class_more labels x n)
  where
    go : (b : Bool) → (b || declared labels n) ≡ false
        → (declared labels n ≡ false → declared_class (labels ++ (x ∷ [])) n ≡ declared_class (x ∷ []) n)
        → cond b (cond (eqb k.class 2) attribute element) (declared_class (labels ++ (x ∷ [])) n) ≡ declared_class (x ∷ []) n
    go true q f = absurd (never true refl q)
    go false q f = f q

class_old : (labels : List Label) (x : Label) (n : ℕ) → eqb x.number n ≡ false → declared_class (labels ++ (x ∷ [])) n ≡ declared_class labels n
unfolding declared_class
class_old [] x n e = rw e
class_old (k ∷ labels) x n e = ap (λ (c : Class). cond (eqb k.number n) (cond (eqb k.class 2) attribute element) c) (class_old labels x n e)

-- What a good label says
pub record GoodParts (labels : List Label) (x : Label) : Type 0 where
  pub low : 2 ≤ x.number
  pub high : x.number ≤ 200
  pub above : every (λ (k : Label). ltb k.number x.number) labels ≡ true
  pub class : is_class x.class ≡ true

pub good_parts : (labels : List Label) (x : Label) → good_label labels x ≡ true → GoodParts labels x
unfolding good_label is_class
good_parts labels x e =
    let low : Bool = leb 2 x.number in
    let high : Bool = leb x.number 200 in
    let above : Bool = every (λ (k : Label). ltb k.number x.number) labels in
    let class : Bool = eqb x.class 1 || eqb x.class 2 in
    let used : Bool = any (λ (k : Label). same k.name x.name) labels in
    let a = both (low && high && above && class && is_name x.name) (not used) e in
    let b = both (low && high && above && class) (is_name x.name) a.0 in
    let c = both (low && high && above) class b.0 in
    let d = both (low && high) above c.0 in
    let f = both low high d.0 in
    record { low = leb-true _ _ f.0; high = leb-true _ _ f.1; above = d.1; class = c.1 }

not_declared : (labels : List Label) (n : ℕ) → every (λ (k : Label). ltb k.number n) labels ≡ true → declared labels n ≡ false
unfolding declared any every
not_declared [] n e = refl
not_declared (k ∷ labels) n e =
    let p = both (ltb k.number n) (every (λ (j : Label). ltb j.number n) labels) e in
    let under : k.number < n = ltb-true _ _ p.0 in
    rw (ne_eqb k.number n (λ q. omega arith)) (not_declared labels n p.1)

class_entry : (c : ℕ) → is_class c ≡ true → cond (is_attribute (cond (eqb c 2) attribute element)) 2 1 ≡ c
unfolding is_class is_attribute
class_entry c e = go (eqb c 1) refl (eqb c 2) refl e
  where
    go : (a : Bool) → eqb c 1 ≡ a → (b : Bool) → eqb c 2 ≡ b → (a || b) ≡ true → cond (is_attribute (cond b attribute element)) 2 1 ≡ c
    go a p true q h = sym (eqb-true c 2 q)
    go true p false q h = sym (eqb-true c 1 p)
    go false p false q h = absurd (never false h refl)

or-false : (b : Bool) → (b || false) ≡ b
or-false true = refl
or-false false = refl

pub tabled_more : (labels : List Label) (x : Label) (classes : List ℕ) → Tabled labels classes → length classes ≡ 256 → GoodParts labels x
    → Tabled (labels ++ (x ∷ [])) (set classes x.number x.class)
tabled_more labels x classes t size g = record { entry = λ n h. go n h (eqb x.number n) refl }
  where
    new : declared labels x.number ≡ false
    new = not_declared labels x.number g.above

    at_own : entry_of (labels ++ (x ∷ [])) x.number ≡ x.class
    at_own =
        unfold entry_of declared_class in
        rw (declared_more labels x x.number, class_more labels x x.number new, new, eq-eqb x.number x.number refl)
        (class_entry x.class g.class)

    at_other : (n : ℕ) → eqb x.number n ≡ false → entry_of (labels ++ (x ∷ [])) n ≡ entry_of labels n
    at_other n e = unfold entry_of in rw (declared_more labels x n, class_old labels x n e, e, or-false (declared labels n))

    go : (n : ℕ) → n < 256 → (b : Bool) → eqb x.number n ≡ b → get_or (set classes x.number x.class) n 0 ≡ entry_of (labels ++ (x ∷ [])) n
    go n h true e =
        let own : x.number ≡ n = eqb-true _ _ e in
        let inside : x.number < length classes = omega (arith, g.high) in
        subst (λ (m : ℕ). get_or (set classes x.number x.class) m 0 ≡ entry_of (labels ++ (x ∷ [])) m) own
        (get_or-set_same classes x.number x.class 0 inside ∙ sym at_own)
    go n h false e =
        get_or-set_other classes x.number n x.class 0 (λ q. eqb-false x.number n e (sym q)) ∙ (t.entry n h ∙ sym (at_other n e))

-- The loop stands after so many labels, the first of which is record number `first`
pub record LabelLoop (first : ℕ) (bytes classes rest : List ℕ) (labels last : ℕ) : Type 0 where
  pub size : 6 * labels + length rest ≤ length bytes
  pub records : Standing 6 labels bytes
  pub highest : Highest (labels_at labels bytes) last
  pub wide : length classes ≡ 256
  pub table : Tabled (labels_at labels bytes) classes
  pub here : rest ≡ records_from labels bytes
  pub walks : walk profile_tests profile_next 0 (first + labels) (labelled (labels_at labels bytes)) rest ≡ walk profile_tests profile_next 0 first no_profile bytes

zeros : (k n : ℕ) → get_or {A = ℕ} (replicate k 0) n 0 ≡ 0
zeros zero n = refl
zeros (suc k) zero = refl
zeros (suc k) (suc n) = zeros k n

pub labels_start : (first : ℕ) (bytes : List ℕ) → LabelLoop first bytes (replicate 256 0) bytes 0 0
unfolding labels_at records_from entry_of declared any every
labels_start first bytes =
    record {
      size = omega arith;
      records = none;
      highest = record { above = λ n two. sym (lt-ltb 0 n (omega arith)) };
      wide = length-replicate {A = ℕ} 256 0;
      table = record { entry = λ n h. zeros 256 n };
      here = refl;
      walks = ap (λ (n : ℕ). walk profile_tests profile_next 0 n no_profile bytes) (add-zero first);
    }

-- a whole label record at the front, as the code has it
pub record LabelHere (rest : List ℕ) : Type 0 where
  pub is_whole : Whole rest
  pub kind : record_kind rest ≡ 1
  pub long : 6 ≤ word rest 0
  pub within : word rest 0 ≤ length rest

pub label_here : (rest : List ℕ) {b : Bool} → b ≡ is_label_record rest → b ≡ true → LabelHere rest
unfolding is_label_record record_length
label_here rest e t =
    let p = both (whole rest) (eqb (record_kind rest) 1) (sym e ∙ t) in
    let w = whole_says rest p.0 in
    let k : record_kind rest ≡ 1 = eqb-true _ _ p.1 in
    record {
      is_whole = w;
      kind = k;
      long = omega (arith, ends_label rest w k, body_length rest w.within, w.long);
      within = w.within;
    }

pub label_body : (rest : List ℕ) {b : Bool} → b ≡ is_label_record rest → b ≡ true → {k : ℕ} → k ≡ word rest 0 → 2 ≤ length (take (k - 4) (drop 4 rest))
label_body rest e t q = let h = label_here rest e t in rw (body_part rest q) (ends_label rest h.is_whole h.kind)

-- where number and class stand in the record
label_number : (l : List ℕ) → 6 ≤ record_length l → (read_label (record_body l)).number ≡ get_or l 4 0
unfolding read_label
label_number l h = body_at l 0 (omega arith)

label_class : (l : List ℕ) → 6 ≤ record_length l → (read_label (record_body l)).class ≡ get_or l 5 0
unfolding read_label
label_class l h = body_at l 1 (omega arith)

label_bad_number : (labels : List Label) (l : List ℕ) → whole l ≡ true → record_kind l ≡ 1 → good_label labels (read_label (record_body l)) ≡ false
    → first_of (profile_tests (labelled labels) l) ≡ 3
unfolding profile_tests first_of in_profile_order is_empty
label_bad_number labels l w k g = rw (room_left 2 64 0 l (omega arith), w, k, g)

module _ {first : ℕ} {bytes classes rest : List ℕ} {labels last : ℕ} (loop : LabelLoop first bytes classes rest labels last) {b : Bool} (is_label : b ≡ is_label_record rest)
    (t : b ≡ true) {k : ℕ} (long : k ≡ word rest 0) {g : Bool} (good : g ≡ good_label (labels_at labels bytes) (read_label (take (k - 4) (drop 4 rest)))) where
  its : LabelHere rest
  its = label_here rest is_label t

  is_good : {c : Bool} → g ≡ c → good_label (labels_at labels bytes) (read_label (record_body rest)) ≡ c
  is_good v = sym (ap (λ (body : List ℕ). good_label (labels_at labels bytes) (read_label body)) (body_part rest long)) ∙ (sym good ∙ v)

  is_whole_lem : whole rest ≡ true
  unfolding is_label_record
  is_whole_lem = (both (whole rest) (eqb (record_kind rest) 1) (sym is_label ∙ t)).0

  some_rest : 0 < length rest
  some_rest = omega (arith, its.is_whole.head)

  pub label_refused : not g ≡ true
      → walk profile_tests profile_next 0 first no_profile bytes ≡ record { number = 3; at = first + labels; state = labelled (labels_at labels bytes) }
  label_refused v =
      sym loop.walks
      ∙ walk_stop profile_tests profile_next (first + labels) 2 (labelled (labels_at labels bytes)) rest some_rest
      (label_bad_number (labels_at labels bytes) rest is_whole_lem its.kind (is_good (not-true _ v)))

  pub label_next : not g ≡ false → {number class : ℕ} → number ≡ get_or rest 4 0 → class ≡ get_or rest 5 0
      → LabelLoop first bytes (set classes number class) (take (length rest - k) (drop k rest)) (labels + 1) number
  label_next v {number} {class} is_number is_its = rw (part_to_end rest k, long ∙ same_length, add-one) grows
    where
      old : List Label
      old = labels_at labels bytes

      x : Label
      x = read_label (record_body rest)

      same_length : word rest 0 ≡ record_length rest
      same_length = unfold record_length in refl

      room : 6 ≤ record_length rest
      room = omega (arith, its.long, same_length)

      number_is : x.number ≡ number
      number_is = label_number rest room ∙ sym is_number

      class_is : x.class ≡ class
      class_is = label_class rest room ∙ sym is_its

      parts : GoodParts old x
      parts = good_parts old x (is_good (not-false _ v))

      order : last < x.number
      order = ltb-true _ _ (sym (loop.highest.above x.number parts.low) ∙ parts.above)

      grown : labels_at (suc labels) bytes ≡ old ++ (x ∷ [])
      grown = labels_more labels bytes ∙ ap (λ (r : List ℕ). old ++ (read_label (record_body r) ∷ [])) (sym loop.here)

      passes : first_of (profile_tests (labelled old) rest) ≡ 0
      passes = profile_label_passes (labelled old) rest refl is_whole_lem its.kind (is_good (not-false _ v))

      table : Tabled (labels_at (suc labels) bytes) (set classes number class)
      table =
          subst (λ (ls : List Label). Tabled ls (set classes number class)) (sym grown)
          (subst (λ (c : ℕ). Tabled (old ++ (x ∷ [])) (set classes number c)) class_is
          (subst (λ (n : ℕ). Tabled (old ++ (x ∷ [])) (set classes n x.class)) number_is
          (tabled_more old x classes loop.table loop.wide parts)))

      grows : LabelLoop first bytes (set classes number class) (drop (record_length rest) rest) (suc labels) number
      grows =
          record {
            size = omega (arith, loop.size, room, its.within, same_length, length-drop (record_length rest) rest);
            records =
                standing_more loop.records (subst (λ (r : List ℕ). 6 ≤ record_length r) loop.here room)
                (subst (λ (r : List ℕ). record_length r ≤ length r) loop.here its.is_whole.within);
            highest =
                subst (λ (ls : List Label). Highest ls number) (sym grown)
                (subst (λ (n : ℕ). Highest (old ++ (x ∷ [])) n) number_is (highest_more old last x loop.highest order));
            wide = length-set classes number class ∙ loop.wide;
            table = table;
            here = ap (λ (r : List ℕ). drop (record_length r) r) loop.here ∙ sym (records_next labels bytes);
            walks =
                ap₂ (λ (n : ℕ) (ls : List Label). walk profile_tests profile_next 0 n (labelled ls) (drop (record_length rest) rest)) (add-suc first labels) grown
                ∙ (ap (λ (s : Profile). walk profile_tests profile_next 0 (suc (first + labels)) s (drop (record_length rest) rest))
                (sym (next_label (labelled old) rest its.kind))
                ∙ (sym (walk_step profile_tests profile_next (first + labels) (labelled old) rest some_rest passes (profile_long (labelled old) rest some_rest passes))
                ∙ loop.walks));
          }
