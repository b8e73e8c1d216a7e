-- A profile that is written is accepted and read back.
use Prim.Native.Nat.{ℕ, suc, ◌+◌, ◌≤◌, ◌<◌}
use Rattle.std.specs.Prelude.{◌≡◌, Bool, false, ◌&&◌, ◌||◌, not, leb, ltb, eqb}
use Rattle.std.proofs.Math.Path.{refl, ap}
use Rattle.std.proofs.Common.{sym, subst, ◌∙◌, arith}
use Rattle.std.proofs.Math.Bool.{true}
use mathlib.Core.List.{List, [], ◌∷◌, ◌++◌, map, flatten, append_assoc, append-nil}
use borrow.Author.Tests.{le-leb, le-ltb, leb-true, ne_eqb}
use Rattle.std.proofs.Math.ListN.{length, get_or, drop}
use Rattle.std.proofs.Math.Seq.{append_snoc}
use Rattle.meaning.specs.Limits.{in_profile}
use Rattle.meaning.specs.Lists.{Each, every, any, same}
use Rattle.meaning.specs.Paths.{Label}
use Rattle.meaning.specs.Keys.{Key}
use Rattle.meaning.specs.Records.{record_length, record_kind, record_body, record_bytes, body_ends, read_label, label_bytes, key_in, key_body, key_bytes}
use Rattle.meaning.specs.Refusals.{sound, first_refusal, oversize, Walked, walk, is_letter, in_name, is_name, good_label, key_twice, Profile, no_profile, profile_tests, profile_next, whole, has_edition, behind_edition, first_entry, edition_refusal, profile_walked, profile_in, profile_refusal}
use Rattle.meaning.specs.Operations.{entries_written, edition_written, profile_written}
use Rattle.theory_paths.specs.Good.{GoodKey, tests_of_good}
use Rattle.theory_records.specs.Tests.{both, never}
use Rattle.theory_records.specs.Walks.{walk_end}
use Rattle.theory_records.specs.Heads.{written_length, written_kind, written_body, written_rest}
use Rattle.theory_records.specs.KeyBodies.{key_in_read, key_is_read}
use Rattle.theory_records.specs.Encodings.{written_whole, label_read}
use Rattle.theory_records.specs.Judged.{profile_label_passes, profile_key_passes}
use Rattle.theory_records.specs.Profiles.{LabelsRead, Different, none_yet, one_more, each_less, length_more, next_label, next_key}
use Rattle.theory_records.specs.Written.{Reads, AllRead, no_more, one_read, add_all, walk_written, record_some, record_long, record_behind}
use Rattle.theory_records.specs.WrittenInputs.{profile_body_size}

abbrev add_label : Profile → Label → Profile
add_label p x = record { labels = p.labels ++ (x ∷ []); keys = p.keys }

abbrev add_key : Profile → Key → Profile
add_key p k = record { labels = p.labels; keys = p.keys ++ (k ∷ []) }

abbrev labelled : List Label → Profile
labelled labels = record { labels = labels; keys = [] }

-- "name, the rest, 1 to 32 bytes"
name_length : (name : List ℕ) → is_name name ≡ true → length name ≤ 32
unfolding is_name
name_length [] e = absurd (never false e refl)
name_length (b ∷ name) e = leb-true _ _ (both (is_letter b && every in_name name) (leb (suc (length name)) 32) e).1

pub good_name : (labels : List Label) (x : Label) → good_label labels x ≡ true → is_name x.name ≡ true
unfolding good_label
good_name labels x e =
    let numbers : Bool = leb 2 x.number && leb x.number 200 && every (λ (k : Label). ltb k.number x.number) labels in
    let class : Bool = numbers && (eqb x.class 1 || eqb x.class 2) in
    (both class (is_name x.name) (both (class && is_name x.name) (not (any (λ (k : Label). same k.name x.name) labels)) e).0).1

label_reads : (labels : List Label) (x : Label) → good_label labels x ≡ true
    → Reads profile_tests profile_next add_label label_bytes (labelled labels) x
unfolding label_bytes
label_reads labels x good =
    record {
      some = record_some 1 body size;
      accepted =
          λ rest.
          profile_label_passes (labelled labels) (record_bytes 1 body ++ rest) refl
          (written_whole 1 body rest size (omega arith) ∙ (unfold body_ends in le-leb 2 (length body) (omega arith)))
          (written_kind 1 body rest (omega arith))
          (rw (same rest) good);
      long = record_long 1 body size;
      behind = record_behind 1 body size;
      read =
          λ rest.
          next_label (labelled labels) (record_bytes 1 body ++ rest) (written_kind 1 body rest (omega arith))
          ∙ ap (λ (y : Label). add_label (labelled labels) y) (same rest);
    }
  where
    body : List ℕ
    body = x.number ∷ x.class ∷ x.name

    size : 4 + length body < 65536
    size = omega (arith, name_length x.name (good_name labels x good))

    same : (rest : List ℕ) → read_label (record_body (record_bytes 1 body ++ rest)) ≡ x
    same rest = ap read_label (written_body 1 body rest size) ∙ label_read x

key_record_reads : (p : Profile) (k : Key) → GoodKey p.labels in_profile k → length p.keys < 64 → key_twice p.keys k ≡ false
    → Reads profile_tests profile_next add_key key_bytes p k
unfolding key_bytes
key_record_reads p k good room new =
    record {
      some = record_some 2 (key_body k) size;
      accepted =
          λ rest.
          profile_key_passes p (record_bytes 2 (key_body k) ++ rest) room
          (written_whole 2 (key_body k) rest size (omega arith) ∙ (unfold body_ends in key_is_read k))
          (written_kind 2 (key_body k) rest (omega arith))
          (rw (same rest) (tests_of_good p.labels in_profile k good))
          (rw (same rest) new);
      long = record_long 2 (key_body k) size;
      behind = record_behind 2 (key_body k) size;
      read =
          λ rest.
          next_key p (record_bytes 2 (key_body k) ++ rest) (written_kind 2 (key_body k) rest (omega arith))
          ∙ ap (λ (y : Key). add_key p y) (same rest);
    }
  where
    size : 4 + length (key_body k) < 65536
    size = omega (arith, profile_body_size p.labels k good)

    same : (rest : List ℕ) → key_in (record_body (record_bytes 2 (key_body k) ++ rest)) ≡ k
    same rest = ap key_in (written_body 2 (key_body k) rest size) ∙ key_in_read k

-- one more at the end of what reads
read_more : {A : Type 0} {add : Profile → A → Profile} {encode : A → List ℕ} {s : Profile} {xs : List A} {x : A}
    → AllRead profile_tests profile_next add encode s xs
    → Reads profile_tests profile_next add encode (add_all profile_tests profile_next add encode s xs) x
    → AllRead profile_tests profile_next add encode s (xs ++ (x ∷ []))
read_more no_more r = one_read r no_more
read_more (one_read q qs) r = one_read q (read_more qs r)

add_labels : (s xs : List Label) → add_all profile_tests profile_next add_label label_bytes (labelled s) xs ≡ labelled (s ++ xs)
add_labels s [] = ap labelled (sym (append-nil s))
add_labels s (x ∷ xs) = add_labels (s ++ (x ∷ [])) xs ∙ ap labelled (append_snoc s x xs)

labels_read : {labels : List Label} → LabelsRead labels → AllRead profile_tests profile_next add_label label_bytes no_profile labels
labels_read (none_yet e) = subst (AllRead profile_tests profile_next add_label label_bytes no_profile) (sym e) no_more
labels_read (one_more before l more good e) =
    subst (AllRead profile_tests profile_next add_label label_bytes no_profile) (sym e)
    (read_more (labels_read more)
    (subst (λ (s : Profile). Reads profile_tests profile_next add_label label_bytes s l) (sym (add_labels [] before)) (label_reads before l good)))

add_keys : (labels : List Label) (s ks : List Key)
    → add_all profile_tests profile_next add_key key_bytes (record { labels = labels; keys = s }) ks ≡ record { labels = labels; keys = s ++ ks }
add_keys labels s [] = ap (λ (l : List Key). record { labels = labels; keys = l }) (sym (append-nil s))
add_keys labels s (k ∷ ks) = add_keys labels (s ++ (k ∷ [])) ks ∙ ap (λ (l : List Key). record { labels = labels; keys = l }) (append_snoc s k ks)

keys_read : (labels : List Label) {keys : List Key} → Different keys → Each (GoodKey labels in_profile) keys → length keys ≤ 64
    → AllRead profile_tests profile_next add_key key_bytes (labelled labels) keys
keys_read labels (none_yet e) good few = subst (AllRead profile_tests profile_next add_key key_bytes (labelled labels)) (sym e) no_more
keys_read labels (one_more before k more new e) good few =
    let parts = each_less before (subst (Each (GoodKey labels in_profile)) e good) in
    let room : length before < 64 = omega (arith, few, ap length e, length_more before k) in
    subst (AllRead profile_tests profile_next add_key key_bytes (labelled labels)) (sym e)
    (read_more (keys_read labels more parts.0 (omega arith))
    (subst (λ (s : Profile). Reads profile_tests profile_next add_key key_bytes s k) (sym (add_keys labels [] before))
    (key_record_reads (record { labels = labels; keys = before }) k parts.1 room new)))

-- A profile of an edition that can be written
pub record ProfileFits (second : Bool) (p : Profile) : Type 0 where
  pub labels : LabelsRead p.labels
  pub keys : Each (GoodKey p.labels in_profile) p.keys
  pub different : Different p.keys
  pub few : length p.keys ≤ 64
  pub size : length (profile_written second p) ≤ 16384

-- labels and keys, from record n on
entries_walked : (n : ℕ) (p : Profile) → LabelsRead p.labels → Each (GoodKey p.labels in_profile) p.keys → Different p.keys
    → length p.keys ≤ 64
    → walk profile_tests profile_next 0 n no_profile (entries_written p) ≡ record { number = 0; at = n + length p.labels + length p.keys; state = p }
unfolding entries_written
entries_walked n p labels keys different few =
    let K : List ℕ = flatten (map key_bytes p.keys) in
    let all : Profile = add_all profile_tests profile_next add_key key_bytes (labelled p.labels) p.keys in
    let m : ℕ = n + length p.labels in
    walk_written profile_tests profile_next add_label label_bytes n K (labels_read labels)
    ∙ (ap (λ (s : Profile). walk profile_tests profile_next 0 m s K) (add_labels [] p.labels)
    ∙ (ap (λ (l : List ℕ). walk profile_tests profile_next 0 m (labelled p.labels) l) (sym (append-nil K))
    ∙ (walk_written profile_tests profile_next add_key key_bytes m [] (keys_read p.labels different keys few)
    ∙ (walk_end profile_tests profile_next (m + length p.keys) all ∙ finish all (add_keys p.labels [] p.keys)))))
  where
    finish : (q : Profile) → q ≡ p
        → ◌≡◌ {A = Walked Profile} (record { number = 0; at = n + length p.labels + length p.keys; state = q })
        (record { number = 0; at = n + length p.labels + length p.keys; state = p })
    finish q r = λ i. record { number = 0; at = n + length p.labels + length p.keys; state = r i }

-- labels and keys do not begin with an edition's record
entries_plain : (p : Profile) → LabelsRead p.labels → Each (GoodKey p.labels in_profile) p.keys → has_edition (entries_written p) ≡ false
unfolding has_edition entries_written flatten label_bytes key_bytes
entries_plain p labels keys = go p.labels p.keys
  where
    kind_of : (kind : ℕ) (body rest : List ℕ) → kind < 6 → whole (record_bytes kind body ++ rest) && eqb (record_kind (record_bytes kind body ++ rest)) 6 ≡ false
    kind_of kind body rest h =
        ap (λ (b : Bool). whole (record_bytes kind body ++ rest) && b)
        (ap (λ (k : ℕ). eqb k 6) (written_kind kind body rest (omega arith)) ∙ ne_eqb kind 6 (λ e. omega arith))
        ∙ none (whole (record_bytes kind body ++ rest))
      where
        none : (b : Bool) → b && false ≡ false
        none true = refl
        none false = refl

    go : (labels : List Label) (keys : List Key)
        → has_edition (flatten (map label_bytes labels) ++ flatten (map key_bytes keys)) ≡ false
    go (l ∷ labels) keys =
        ap has_edition (append_assoc (label_bytes l) (flatten (map label_bytes labels)) (flatten (map key_bytes keys)))
        ∙ kind_of 1 (l.number ∷ l.class ∷ l.name) (flatten (map label_bytes labels) ++ flatten (map key_bytes keys)) (omega arith)
    go [] (k ∷ keys) = kind_of 2 (key_body k) (flatten (map key_bytes keys)) (omega arith)
    go [] [] = unfold whole in refl

-- the edition's record in front
pub profile_walked_written : (second : Bool) (p : Profile) → ProfileFits second p
    → (has_edition (profile_written second p) ≡ second)
    × ((profile_walked (profile_written second p)).number ≡ 0) × ((profile_walked (profile_written second p)).state ≡ p)
unfolding profile_walked profile_written edition_written first_entry behind_edition
profile_walked_written false p f =
    let e = entries_plain p f.labels f.keys in
    let w = entries_walked 0 p f.labels f.keys f.different f.few in
    (e, rw e (ap (λ (x : Walked Profile). x.number) w), rw e (ap (λ (x : Walked Profile). x.state) w))
profile_walked_written true p f =
    let all : List ℕ = record_bytes 6 (2 ∷ []) ++ entries_written p in
    let e : has_edition all ≡ true =
    unfold has_edition in
    rw (written_whole 6 (2 ∷ []) (entries_written p) (omega arith) (omega arith), written_kind 6 (2 ∷ []) (entries_written p) (omega arith)) (unfold body_ends in refl) in
    let b : drop (record_length all) all ≡ entries_written p =
    ap (λ (k : ℕ). drop k all) (written_length 6 (2 ∷ []) (entries_written p) (omega arith)) ∙ written_rest 6 (2 ∷ []) (entries_written p) in
    let w = entries_walked 1 p f.labels f.keys f.different f.few in
    (e, rw (e, b) (ap (λ (x : Walked Profile). x.number) w), rw (e, b) (ap (λ (x : Walked Profile). x.state) w))

pub profile_written_sound : (second : Bool) (p : Profile) → ProfileFits second p → profile_refusal (profile_written second p) ≡ sound
unfolding profile_refusal first_refusal oversize edition_refusal
profile_written_sound false p f =
    let w = profile_walked_written false p f in
    rw (le-ltb 16384 (length (profile_written false p)) f.size, w.0, w.1)
profile_written_sound true p f =
    let w = profile_walked_written true p f in
    let byte : get_or (record_body (profile_written true p)) 0 0 ≡ 2 =
    unfold profile_written edition_written in ap (λ (l : List ℕ). get_or l 0 0) (written_body 6 (2 ∷ []) (entries_written p) (omega arith)) in
    rw (le-ltb 16384 (length (profile_written true p)) f.size, w.0, byte, w.1)

pub profile_in_written : (second : Bool) (p : Profile) → ProfileFits second p → profile_in (profile_written second p) ≡ p
unfolding profile_in
profile_in_written second p f = (profile_walked_written second p f).2
