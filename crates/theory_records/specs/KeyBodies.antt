-- A key body read and written: document 01, "length and symbols of C; of T; count of key paths; length and symbols of each".
use Rattle.std.specs.Prelude.{ℕ, zero, suc, ◌≤◌, ◌≡◌, refl, Bool, true, false, cond, leb, length, take, drop}
use Rattle.std.proofs.Common.{sym, subst, ap, ◌∙◌, arith, leb-true, le-leb, take-append-drop, length-append, length-take-le}
use mathlib.Core.List.{List, [], ◌∷◌, ◌++◌, map, flatten, append_assoc, append-nil}
use Rattle.std.proofs.Math.Option.{Option, none, some, get_or, some-injective, none-ne-some}
use Rattle.std.proofs.Math.Seq.{take-append_seam, drop-append_seam}
use Rattle.meaning.specs.Keys.{Key}
use Rattle.meaning.specs.Records.{take_path, and_then, take_paths, take_set, if_ended, read_key, no_key, key_in, path_bytes, key_body, is_some}
use Rattle.theory_records.specs.Tests.{never}

-- a reading of two parts that succeeds: the first part was read, and then the second
pub record Both {A B : Type 0} (first : Option A) (second : A → Option B) (b : B) : Type 0 where
  pub a : A
  pub one : first ≡ some a
  pub two : second a ≡ some b

pub then_some : {A B : Type 0} (first : Option A) (second : A → Option B) {b : B} → and_then first second ≡ some b
    → Both first second b
unfolding and_then
then_some none second e = absurd (none-ne-some _ e)
then_some (some a) second e = record { a = a; one = refl; two = e }

-- a path taken is a path written
pub path_written : (l p r : List ℕ) → take_path l ≡ some (p, r) → path_bytes p ++ r ≡ l
unfolding take_path path_bytes
path_written [] p r e = absurd (none-ne-some _ e)
path_written (n ∷ l) p r e = go (leb n (length l)) refl e
  where
    go : (b : Bool) → leb n (length l) ≡ b → cond {A = Option (List ℕ × List ℕ)} b (some (take n l, drop n l)) none ≡ some (p, r) → length p ∷ (p ++ r) ≡ n ∷ l
    go true h q =
        let same : ◌≡◌ {A = List ℕ × List ℕ} (take n l, drop n l) (p, r) = some-injective _ _ q in
        let size : length (take n l) ≡ n = length-take-le n l (leb-true n (length l) h) in
        subst (λ (w : List ℕ × List ℕ). length w.0 ∷ (w.0 ++ w.1) ≡ n ∷ l) same
        (rw (size, take-append-drop n l))
    go false h q = absurd (none-ne-some _ q)

pub path_taken : (p r : List ℕ) → take_path (path_bytes p ++ r) ≡ some (p, r)
unfolding take_path path_bytes
path_taken p r =
    let long : length p ≤ length (p ++ r) = omega (arith, length-append p r) in
    let fits : leb (length p) (length (p ++ r)) ≡ true = le-leb _ _ long in
    rw (fits, take-append_seam p r, drop-append_seam p r)

-- as many paths as were counted, and they are the paths written
pub record Taken (count : ℕ) (l : List ℕ) (ps : List (List ℕ)) (r : List ℕ) : Type 0 where
  pub number : length ps ≡ count
  pub bytes : flatten (map path_bytes ps) ++ r ≡ l

pub paths_written : (count : ℕ) (l : List ℕ) (ps : List (List ℕ)) (r : List ℕ) → take_paths count l ≡ some (ps, r) → Taken count l ps r
unfolding take_paths flatten
paths_written zero l ps r e =
    subst (λ (w : List (List ℕ) × List ℕ). Taken 0 l w.0 w.1) (some-injective _ _ e) (record { number = refl; bytes = refl })
paths_written (suc count) l ps r e =
    let w = then_some (take_path l) _ e in
    let v = then_some (take_paths count w.a.1) _ w.two in
    let more = paths_written count w.a.1 v.a.0 v.a.1 v.one in
    let here = path_written l w.a.0 w.a.1 w.one in
    subst (λ (w : List (List ℕ) × List ℕ). Taken (suc count) l w.0 w.1) (some-injective _ _ v.two)
    (record {
      number = ap suc more.number;
      bytes =
          append_assoc (path_bytes w.a.0) (flatten (map path_bytes v.a.0)) v.a.1
          ∙ (ap (λ (x : List ℕ). path_bytes w.a.0 ++ x) more.bytes ∙ here);
    })

pub paths_taken : (ps : List (List ℕ)) (r : List ℕ) → take_paths (length ps) (flatten (map path_bytes ps) ++ r) ≡ some (ps, r)
unfolding take_paths flatten and_then
paths_taken [] r = refl
paths_taken (p ∷ ps) r =
    rw (append_assoc (path_bytes p) (flatten (map path_bytes ps)) r, path_taken p (flatten (map path_bytes ps) ++ r), paths_taken ps r)

pub set_written : (l : List ℕ) (ps : List (List ℕ)) (r : List ℕ) → take_set l ≡ some (ps, r)
    → length ps ∷ (flatten (map path_bytes ps) ++ r) ≡ l
unfolding take_set
set_written [] ps r e = absurd (none-ne-some _ e)
set_written (count ∷ l) ps r e =
    let w = paths_written count l ps r e in
    rw (w.number, w.bytes)

pub set_taken : (ps : List (List ℕ)) → take_set (length ps ∷ flatten (map path_bytes ps)) ≡ some (ps, [])
unfolding take_set
set_taken ps = subst (λ (l : List ℕ). take_paths (length ps) l ≡ some (ps, [])) (append-nil _) (paths_taken ps [])

pub ended_says : (k : Key) (r : List ℕ) (k' : Key) → if_ended k r ≡ some k' → (k ≡ k') × (r ≡ [])
unfolding if_ended
ended_says k [] k' e = (some-injective _ _ e, refl)
ended_says k (b ∷ r) k' e = absurd (none-ne-some _ e)

key_parts : (body r₁ r₂ r₃ c t : List ℕ) (ps : List (List ℕ)) → path_bytes c ++ r₁ ≡ body → path_bytes t ++ r₂ ≡ r₁
    → length ps ∷ (flatten (map path_bytes ps) ++ r₃) ≡ r₂ → r₃ ≡ []
    → key_body (record { context = c; target = t; paths = ps }) ≡ body
unfolding key_body
key_parts body r₁ r₂ r₃ c t ps e₁ e₂ e₃ e₄ =
    let last : length ps ∷ flatten (map path_bytes ps) ≡ r₂ =
    ap {B = List ℕ} (λ (l : List ℕ). length ps ∷ l) (sym (append-nil (flatten (map path_bytes ps)))
    ∙ ap (λ (l : List ℕ). flatten (map path_bytes ps) ++ l) (sym e₄)) ∙ e₃ in
    rw (last, e₂, e₁)

-- a body that is read as a key is that key's body
pub key_written : (body : List ℕ) (k : Key) → read_key body ≡ some k → key_body k ≡ body
unfolding read_key
key_written body k e =
    let c = then_some (take_path body) _ e in
    let t = then_some (take_path c.a.1) _ c.two in
    let s = then_some (take_set t.a.1) _ t.two in
    let done = ended_says _ s.a.1 k s.two in
    subst (λ (k : Key). key_body k ≡ body) done.0
    (key_parts body c.a.1 t.a.1 s.a.1 c.a.0 t.a.0 s.a.0 (path_written body _ _ c.one)
    (path_written c.a.1 _ _ t.one)
    (set_written t.a.1 _ _ s.one)
    done.1)

-- a key's body is read as that key
pub key_read : (k : Key) → read_key (key_body k) ≡ some k
unfolding read_key key_body and_then if_ended
key_read k =
    let set : List ℕ = length k.paths ∷ flatten (map path_bytes k.paths) in
    rw (path_taken k.context (path_bytes k.target ++ set), path_taken k.target set, set_taken k.paths)

-- where a body is read at all, what is read is the key in it
pub some_key : (body : List ℕ) → is_some (read_key body) ≡ true → read_key body ≡ some (key_in body)
unfolding is_some key_in
some_key body e = go (read_key body) refl
  where
    go : (o : Option Key) → read_key body ≡ o → read_key body ≡ some (key_in body)
    go none q = absurd (never (is_some (read_key body)) e (ap is_some q))
    go (some k) q = q ∙ ap {B = Option Key} some (sym (ap (λ (o : Option Key). get_or o no_key) q))

pub key_in_written : (body : List ℕ) → is_some (read_key body) ≡ true → key_body (key_in body) ≡ body
key_in_written body e = key_written body (key_in body) (some_key body e)

pub key_in_read : (k : Key) → key_in (key_body k) ≡ k
unfolding key_in
key_in_read k = ap (λ (o : Option Key). get_or o no_key) (key_read k)

pub key_is_read : (k : Key) → is_some (read_key (key_body k)) ≡ true
unfolding is_some
key_is_read k = ap is_some (key_read k)

-- two keys with one body are one key
pub key_body_injective : (k k' : Key) → key_body k ≡ key_body k' → k ≡ k'
key_body_injective k k' e = sym (key_in_read k) ∙ (ap key_in e ∙ key_in_read k')
