-- Under a table that says what the labels say, a key read off bytes passes the tests by the table as it passes those by the labels.
use Rattle.std.specs.Prelude.{ℕ, zero, suc, ◌+◌, ◌≡◌, Bool, true, ◌&&◌, ◌||◌, eqb, get_or, take, drop}
use Rattle.std.proofs.Math.Path.{refl, ap, ap₂}
use mathlib.Core.List.{List, [], ◌∷◌, ◌++◌}
use Rattle.std.proofs.Common.{arith, get_or-drop}
use Rattle.meaning.specs.Limits.{KeyLimits}
use Rattle.meaning.specs.Lists.{every}
use Rattle.meaning.specs.Paths.{Label, Class, is_element, class_of, norm, join, valid, simple}
use Rattle.meaning.specs.Keys.{Key}
use Rattle.meaning.specs.Records.{read_key, key_in, is_some}
use Rattle.meaning.specs.Refusals.{is_symbol, good_path, good_symbols, all_valid, key_tests}
use Rattle.read_record.specs.BodyParts.{lead_path, after_path, paths_of, set_of, set_in, key_of, key_in_parts}
use Rattle.read_record.specs.Classes.{Tabled, ByteAt, class_by, is_symbol_by, good_path_by, good_symbols_by, all_valid_by, key_tests_by, class_tabled, symbol_tabled}

-- Parts of bytes are bytes
pub bytes_take : (n : ℕ) (l : List ℕ) → ByteAt l → ByteAt (take n l)
bytes_take zero l h i = omega arith
bytes_take (suc n) [] h i = omega arith
bytes_take (suc n) (x ∷ l) h zero = h 0
bytes_take (suc n) (x ∷ l) h (suc i) = bytes_take n l (λ j. h (suc j)) i

pub bytes_drop : (n : ℕ) (l : List ℕ) → ByteAt l → ByteAt (drop n l)
bytes_drop n l h i = rw (get_or-drop n l i 0) (h (n + i))

bytes_append : (a b : List ℕ) → ByteAt a → ByteAt b → ByteAt (a ++ b)
bytes_append [] b ha hb i = hb i
bytes_append (x ∷ a) b ha hb zero = ha 0
bytes_append (x ∷ a) b ha hb (suc i) = bytes_append a b (λ j. ha (suc j)) hb i

bytes_norm : (p : List ℕ) → ByteAt p → ByteAt (norm p)
unfolding norm
bytes_norm [] h i = h i
bytes_norm (suc a ∷ p) h zero = h 0
bytes_norm (suc a ∷ p) h (suc i) = bytes_norm p (λ j. h (suc j)) i
bytes_norm (zero ∷ []) h i = h i
bytes_norm (zero ∷ zero ∷ p) h i = bytes_norm (zero ∷ p) (λ j. h (suc j)) i
bytes_norm (zero ∷ suc a ∷ p) h zero = h 0
bytes_norm (zero ∷ suc a ∷ p) h (suc zero) = h 1
bytes_norm (zero ∷ suc a ∷ p) h (suc (suc i)) = bytes_norm p (λ j. h (suc (suc j))) i

bytes_join : (p q : List ℕ) → ByteAt p → ByteAt q → ByteAt (join p q)
unfolding join
bytes_join p q hp hq = bytes_norm (p ++ q) (bytes_append p q hp hq)

pub bytes_lead : (l : List ℕ) → ByteAt l → ByteAt (lead_path l)
unfolding lead_path
bytes_lead [] h = h
bytes_lead (n ∷ l) h = bytes_take n l (λ j. h (suc j))

pub bytes_after : (l : List ℕ) → ByteAt l → ByteAt (after_path l)
unfolding after_path
bytes_after [] h = h
bytes_after (n ∷ l) h = bytes_drop n l (λ j. h (suc j))

pub bytes_paths : (count : ℕ) (l : List ℕ) → ByteAt l → (n : ℕ) → ByteAt (get_or (paths_of count l) n [])
unfolding paths_of
bytes_paths zero l h n i = omega arith
bytes_paths (suc count) l h zero i = bytes_lead l h i
bytes_paths (suc count) l h (suc n) i = bytes_paths count (after_path l) (bytes_after l h) n i

bytes_set : (set : List ℕ) → ByteAt set → (n : ℕ) → ByteAt (get_or (set_of set) n [])
unfolding set_of
bytes_set [] h n i = omega arith
bytes_set (count ∷ l) h n i = bytes_paths count l (λ j. h (suc j)) n i

-- A key whose symbols are bytes, as each key read off bytes is
pub record ByteKey (k : Key) : Type 0 where
  pub context : ByteAt k.context
  pub target : ByteAt k.target
  pub paths : (n : ℕ) → ByteAt (get_or k.paths n [])

pub bytes_key : (body : List ℕ) → is_some (read_key body) ≡ true → ByteAt body → ByteKey (key_in body)
unfolding key_of set_in
bytes_key body e h =
    rw (key_in_parts body e)
    (record {
      context = bytes_lead body h;
      target = bytes_lead (after_path body) (bytes_after body h);
      paths = bytes_set (after_path (after_path body)) (bytes_after (after_path body) (bytes_after body h));
    })

every_agree : {A : Type 0} (d : A) (f g : A → Bool) (l : List A) → ((i : ℕ) → f (get_or l i d) ≡ g (get_or l i d)) → every f l ≡ every g l
unfolding every
every_agree d f g [] h = refl
every_agree d f g (x ∷ l) h = ap₂ (λ (a b : Bool). a && b) (h 0) (every_agree d f g l (λ i. h (suc i)))

module _ {labels : List Label} {classes : List ℕ} (tabled : Tabled labels classes) where
  pub valid_tabled : (p : List ℕ) → ByteAt p → valid (class_by classes) p ≡ valid (class_of labels) p
  unfolding valid
  valid_tabled [] h = refl
  valid_tabled (s ∷ []) h = refl
  valid_tabled (s ∷ t ∷ p) h =
      ap₂ (λ (k : Class) (b : Bool). (eqb s 0 || is_element k) && b) (class_tabled tabled s (h 0)) (valid_tabled (t ∷ p) (λ j. h (suc j)))

  pub path_tabled : (limit : ℕ) (p : List ℕ) → ByteAt p → good_path_by classes limit p ≡ good_path labels limit p
  unfolding good_path_by good_path
  path_tabled limit p h = rw (every_agree 0 (is_symbol_by classes) (is_symbol labels) p (λ i. symbol_tabled tabled (get_or p i 0) (h i)))

  pub symbols_tabled : (limits : KeyLimits) (k : Key) → ByteKey k → good_symbols_by classes limits k ≡ good_symbols labels limits k
  unfolding good_symbols_by good_symbols
  symbols_tabled limits k h =
      rw (
        path_tabled limits.symbols k.context h.context,
        path_tabled limits.symbols k.target h.target,
        every_agree [] (λ (p : List ℕ). good_path_by classes limits.path_symbols p && simple p)
            (λ (p : List ℕ). good_path labels limits.path_symbols p && simple p) k.paths
            (λ n. ap (λ (b : Bool). b && simple (get_or k.paths n [])) (path_tabled limits.path_symbols (get_or k.paths n []) (h.paths n))),
      )

  pub validity_tabled : (k : Key) → ByteKey k → all_valid_by classes k ≡ all_valid labels k
  unfolding all_valid_by all_valid
  validity_tabled k h =
      every_agree [] (λ (p : List ℕ). valid (class_by classes) (join (join k.context k.target) p))
      (λ (p : List ℕ). valid (class_of labels) (join (join k.context k.target) p)) k.paths
      (λ n. valid_tabled (join (join k.context k.target) (get_or k.paths n []))
      (bytes_join (join k.context k.target) (get_or k.paths n []) (bytes_join k.context k.target h.context h.target) (h.paths n)))

  pub tests_tabled : (limits : KeyLimits) (k : Key) → ByteKey k → key_tests_by classes limits k ≡ key_tests labels limits k
  unfolding key_tests_by key_tests
  tests_tabled limits k h = rw (symbols_tabled limits k h, validity_tabled k h)
