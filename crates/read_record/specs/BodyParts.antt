-- A key body as its parts in place (document 01, "Records", kind 2): the path at the front, what stands behind it, so many paths to the end.
-- Each is equal to what `read_key` takes.
use Rattle.std.specs.Prelude.{ℕ, zero, suc, ◌≡◌, refl, Bool, true, false, cond, ◌&&◌, List, [], ◌∷◌, leb, length, take, drop}
use Rattle.std.proofs.Common.{sym, ap, ◌∙◌}
use Rattle.std.proofs.Math.Option.{Option, none, some}
use Rattle.meaning.specs.Lists.{is_empty}
use Rattle.meaning.specs.Keys.{Key}
use Rattle.meaning.specs.Records.{take_path, take_paths, take_set, and_then, if_ended, read_key, key_in, is_some}

-- a path stands whole at the front
unfoldable pub holds_path : List ℕ → Bool
holds_path [] = false
holds_path (n ∷ l) = leb n (length l)

-- its symbols, and what stands behind it
unfoldable pub lead_path : List ℕ → List ℕ
lead_path [] = []
lead_path (n ∷ l) = take n l

unfoldable pub after_path : List ℕ → List ℕ
after_path [] = []
after_path (n ∷ l) = drop n l

-- so many paths stand here, to the end
unfoldable pub paths_end : ℕ → List ℕ → Bool
paths_end zero l = is_empty l
paths_end (suc count) l = holds_path l && paths_end count (after_path l)

unfoldable pub set_ends : List ℕ → Bool
set_ends [] = false
set_ends (count ∷ l) = paths_end count l

-- the paths
unfoldable pub paths_of : ℕ → List ℕ → List (List ℕ)
paths_of zero l = []
paths_of (suc count) l = lead_path l ∷ paths_of count (after_path l)

unfoldable pub set_of : List ℕ → List (List ℕ)
set_of [] = []
set_of (count ∷ l) = paths_of count l

-- where the count of key paths stands
unfoldable pub set_in : List ℕ → List ℕ
set_in body = after_path (after_path body)

unfoldable pub key_ends : List ℕ → Bool
key_ends body = holds_path body && holds_path (after_path body) && set_ends (set_in body)

unfoldable pub key_of : List ℕ → Key
key_of body = record { context = lead_path body; target = lead_path (after_path body); paths = set_of (set_in body) }

-- What `meaning` takes, where the test holds
path_taken : Bool → List ℕ → Option (List ℕ × List ℕ)
path_taken true l = some (lead_path l, after_path l)
path_taken false l = none

take_path_parts : (l : List ℕ) → take_path l ≡ path_taken (holds_path l) l
unfolding take_path holds_path lead_path after_path path_taken
take_path_parts [] = refl
take_path_parts (n ∷ l) = go (leb n (length l))
  where
    go : (b : Bool) → cond b (some (take n l, drop n l)) none ≡ path_taken b (n ∷ l)
    go true = refl
    go false = refl

-- so many paths stand here, whatever stands behind them
paths_hold : ℕ → List ℕ → Bool
paths_hold zero l = true
paths_hold (suc count) l = holds_path l && paths_hold count (after_path l)

paths_rest : ℕ → List ℕ → List ℕ
paths_rest zero l = l
paths_rest (suc count) l = paths_rest count (after_path l)

paths_end_split : (count : ℕ) (l : List ℕ) → paths_end count l ≡ (paths_hold count l && is_empty (paths_rest count l))
unfolding paths_end paths_hold paths_rest
paths_end_split zero l = refl
paths_end_split (suc count) l = rw (paths_end_split count (after_path l)) (go (holds_path l))
  where
    go : (b : Bool) → (b && (paths_hold count (after_path l) && is_empty (paths_rest count (after_path l))))
        ≡ (b && paths_hold count (after_path l) && is_empty (paths_rest count (after_path l)))
    go true = refl
    go false = refl

paths_taken : Bool → ℕ → List ℕ → Option (List (List ℕ) × List ℕ)
paths_taken true count l = some (paths_of count l, paths_rest count l)
paths_taken false count l = none

take_paths_parts : (count : ℕ) (l : List ℕ) → take_paths count l ≡ paths_taken (paths_hold count l) count l
unfolding take_paths and_then paths_hold paths_of paths_rest path_taken paths_taken
take_paths_parts zero l = refl
take_paths_parts (suc count) l = rw (take_path_parts l) (go (holds_path l) (take_paths_parts count (after_path l)))
  where
    more : List (List ℕ) × List ℕ → Option (List (List ℕ) × List ℕ)
    more ps = some (lead_path l ∷ ps.0, ps.1)

    inner : (b : Bool) → and_then (paths_taken b count (after_path l)) more ≡ paths_taken b (suc count) l
    inner true = refl
    inner false = refl

    next : List ℕ × List ℕ → Option (List (List ℕ) × List ℕ)
    next p = and_then (take_paths count p.1) (λ ps. some (p.0 ∷ ps.0, ps.1))

    go : (b : Bool) → take_paths count (after_path l) ≡ paths_taken (paths_hold count (after_path l)) count (after_path l)
        → and_then (path_taken b l) next ≡ paths_taken (b && paths_hold count (after_path l)) (suc count) l
    go true e = ap (λ (o : Option (List (List ℕ) × List ℕ)). and_then o more) e ∙ inner (paths_hold count (after_path l))
    go false e = refl

unfoldable pub key_if : Bool → Key → Option Key
key_if true k = some k
key_if false k = none

if_ended_parts : (k : Key) (l : List ℕ) → if_ended k l ≡ key_if (is_empty l) k
unfolding if_ended key_if is_empty
if_ended_parts k [] = refl
if_ended_parts k (b ∷ l) = refl

take_set_parts : (set : List ℕ) (key : List (List ℕ) → Key)
    → and_then (take_set set) (λ s. if_ended (key s.0) s.1) ≡ key_if (set_ends set) (key (set_of set))
unfolding take_set and_then set_ends set_of key_if paths_taken
take_set_parts [] key = refl
take_set_parts (count ∷ l) key = rw (take_paths_parts count l, paths_end_split count l) (go (paths_hold count l))
  where
    go : (b : Bool) → and_then (paths_taken b count l) (λ s. if_ended (key s.0) s.1) ≡ key_if (b && is_empty (paths_rest count l)) (key (paths_of count l))
    go true = if_ended_parts (key (paths_of count l)) (paths_rest count l)
    go false = refl

-- `read_key` is the key of these parts, where they end the body
pub read_key_parts : (body : List ℕ) → read_key body ≡ key_if (key_ends body) (key_of body)
unfolding read_key and_then path_taken key_if key_of key_ends set_in
read_key_parts body = rw (take_path_parts body) (first (holds_path body))
  where
    second : (b : Bool) → and_then (path_taken b (after_path body))
        (λ t. and_then (take_set t.1) (λ s. if_ended (record { context = lead_path body; target = t.0; paths = s.0 }) s.1))
        ≡ key_if (b && set_ends (after_path (after_path body))) (key_of body)
    second true =
        take_set_parts (after_path (after_path body)) (λ ps. record { context = lead_path body; target = lead_path (after_path body); paths = ps })
    second false = refl

    first : (b : Bool) → and_then (path_taken b body) (λ c. and_then (take_path c.1)
        (λ t. and_then (take_set t.1) (λ s. if_ended (record { context = c.0; target = t.0; paths = s.0 }) s.1)))
        ≡ key_if (b && holds_path (after_path body) && set_ends (after_path (after_path body))) (key_of body)
    first true = rw (take_path_parts (after_path body)) (second (holds_path (after_path body)))
    first false = refl

pub is_some_parts : (body : List ℕ) → is_some (read_key body) ≡ key_ends body
unfolding is_some key_if
is_some_parts body = rw (read_key_parts body) (go (key_ends body))
  where
    go : (b : Bool) → is_some (key_if b (key_of body)) ≡ b
    go true = refl
    go false = refl

-- under what the readers require, the key that `key_in` says is that of the parts
pub key_in_parts : (body : List ℕ) → is_some (read_key body) ≡ true → key_in body ≡ key_of body
unfolding key_in key_if
key_in_parts body e = rw (read_key_parts body, sym (is_some_parts body) ∙ e)
