-- Where the parts of a key stand in its body, and stepping from key path to key path in place.
use Rattle.std.specs.Prelude.{ℕ, zero, suc, ◌+◌, ◌-◌, ◌<◌, ◌≤◌, ◌≡◌, refl, Bool, true, false, ◌&&◌, not, List, [], ◌∷◌, length, get_or, drop}
use Rattle.std.proofs.Common.{sym, ap, ◌∙◌, add-one, arith, drop-cons}
use Rattle.meaning.specs.Lists.{every}
use Rattle.meaning.specs.Records.{read_key, key_in, is_some}
use Rattle.read_record.specs.Scans.{Scan, scan_start, scan_next, scan_stop, scan_end}
use Rattle.read_record.specs.BodyParts.{holds_path, lead_path, after_path, paths_end, set_ends, paths_of, set_of, set_in, key_ends, key_of, is_some_parts, key_in_parts}
use Rattle.theory_lists.specs.Bools.{and_first, and_second}

-- where the key paths begin, behind their count
unfoldable pub paths_in : List ℕ → List ℕ
paths_in body = drop 1 (set_in body)

pub paths_count : (count : ℕ) (l : List ℕ) → length (paths_of count l) ≡ count
unfolding paths_of
paths_count zero l = refl
paths_count (suc count) l = ap suc (paths_count count (after_path l))

set_there : (set : List ℕ) → set_ends set ≡ true → 0 < length set
unfolding set_ends
set_there [] e = absurd (let z : ◌≡◌ {A = ℕ} 0 1 = cc in omega arith)
set_there (n ∷ l) e = omega arith

set_length : (set : List ℕ) → length (set_of set) ≡ get_or set 0 0
unfolding set_of
set_length [] = refl
set_length (n ∷ l) = paths_count n l

-- What the readers of a key require, taken apart; each part as the code comes to it
module _ (body : List ℕ) (e : is_some (read_key body) ≡ true) where
  ends : key_ends body ≡ true
  ends = sym (is_some_parts body) ∙ e

  pub context_holds : holds_path body ≡ true
  unfolding key_ends
  context_holds = and_first _ _ (and_first _ _ ends)

  pub target_holds : holds_path (after_path body) ≡ true
  unfolding key_ends
  target_holds = and_second (holds_path body) _ (and_first _ _ ends)

  pub set_holds : set_ends (set_in body) ≡ true
  unfolding key_ends
  set_holds = and_second (holds_path body && holds_path (after_path body)) _ ends

  pub context_is : lead_path body ≡ (key_in body).context
  unfolding key_of
  context_is = rw (key_in_parts body e)

  pub target_is : lead_path (after_path body) ≡ (key_in body).target
  unfolding key_of
  target_is = rw (key_in_parts body e)

  pub paths_are : set_of (set_in body) ≡ (key_in body).paths
  unfolding key_of
  paths_are = rw (key_in_parts body e)

  pub set_nonempty : 0 < length (set_in body)
  set_nonempty = set_there (set_in body) set_holds

  pub count_is : get_or (set_in body) 0 0 ≡ length (key_in body).paths
  count_is = sym (set_length (set_in body)) ∙ ap length paths_are

-- The rest of a body stands at path i of ps: as many paths as are left, to the end
pub record AtPath (ps : List (List ℕ)) (i : ℕ) (rest : List ℕ) : Type 0 where
  pub ends : paths_end (length ps - i) rest ≡ true
  pub are : paths_of (length ps - i) rest ≡ drop i ps

set_at : (set : List ℕ) (ps : List (List ℕ)) → set_ends set ≡ true → set_of set ≡ ps → AtPath ps 0 (drop 1 set)
unfolding set_ends set_of
set_at [] ps e h = absurd (let z : ◌≡◌ {A = ℕ} 0 1 = cc in omega arith)
set_at (n ∷ l) ps e h =
    let k : length ps - 0 ≡ n = omega (arith, paths_count n l, ap length h) in
    record { ends = rw k e; are = rw k h }

pub at_start : (body : List ℕ) → is_some (read_key body) ≡ true → AtPath (key_in body).paths 0 (paths_in body)
unfolding paths_in
at_start body e = set_at (set_in body) (key_in body).paths (set_holds body e) (paths_are body e)

pub at_start_in : (body : List ℕ) → is_some (read_key body) ≡ true → {rest : List ℕ} → rest ≡ paths_in body → AtPath (key_in body).paths 0 rest
at_start_in body e r = rw r (at_start body e)

-- at a path: it stands whole, it is that path, and the next stands behind it
pub step_holds : (count : ℕ) (rest : List ℕ) → 0 < count → paths_end count rest ≡ true → holds_path rest ≡ true
unfolding paths_end
step_holds zero rest h e = absurd (omega arith)
step_holds (suc count) rest h e = and_first _ _ e

step_lead : (count : ℕ) (rest : List ℕ) → 0 < count → get_or (paths_of count rest) 0 [] ≡ lead_path rest
unfolding paths_of
step_lead zero rest h = absurd (omega arith)
step_lead (suc count) rest h = refl

pub step_ends : (count : ℕ) (rest : List ℕ) → paths_end (suc count) rest ≡ true → paths_end count (after_path rest) ≡ true
unfolding paths_end
step_ends count rest e = and_second (holds_path rest) _ e

step_are : (count : ℕ) (rest : List ℕ) (p : List ℕ) (ps : List (List ℕ)) → paths_of (suc count) rest ≡ p ∷ ps → paths_of count (after_path rest) ≡ ps
unfolding paths_of
step_are count rest p ps e = ap (drop 1) e

module _ {ps : List (List ℕ)} {i : ℕ} {rest : List ℕ} (a : AtPath ps i rest) (h : i < length ps) where
  pub at_holds : holds_path rest ≡ true
  at_holds = step_holds (length ps - i) rest (omega arith) a.ends

  pub at_lead : lead_path rest ≡ get_or ps i []
  at_lead =
      sym (step_lead (length ps - i) rest (omega arith)) ∙ ap (λ (l : List (List ℕ)). get_or l 0 []) (a.are ∙ drop-cons ps i [] h)

  pub at_next : {next : List ℕ} → next ≡ after_path rest → AtPath ps (i + 1) next
  at_next {next} n =
      let k : length ps - i ≡ suc (length ps - suc i) = omega arith in
      record {
        ends = rw (n, add-one) (step_ends (length ps - suc i) rest (rw k at a.ends));
        are =
            rw (n, add-one)
            (step_are (length ps - suc i) rest (get_or ps i []) (drop (suc i) ps) ((rw k at a.are) ∙ drop-cons ps i [] h));
      }

-- A scan of the key paths for f, in place
pub record PathScan (f : List ℕ → Bool) (ps : List (List ℕ)) (i : ℕ) (rest : List ℕ) (w : Bool) : Type 0 where
  pub at : AtPath ps i rest
  pub scan : Scan [] f ps i w

pub path_scan_start : (f : List ℕ → Bool) (ps : List (List ℕ)) (rest : List ℕ) → AtPath ps 0 rest → PathScan f ps 0 rest (every f ps)
path_scan_start f ps rest a = record { at = a; scan = scan_start [] f ps }

module _ {f : List ℕ → Bool} {ps : List (List ℕ)} {i : ℕ} {rest : List ℕ} {w : Bool} (s : PathScan f ps i rest w) where
  pub path_scan_stop : i < length ps → {p : List ℕ} → p ≡ lead_path rest → {r : Bool} → r ≡ f p → not r ≡ true → false ≡ w
  path_scan_stop h l e t = scan_stop s.scan h (e ∙ ap f (l ∙ at_lead s.at h)) t

  pub path_scan_next : i < length ps → {p : List ℕ} → p ≡ lead_path rest → {r : Bool} → r ≡ f p → not r ≡ false
      → {next : List ℕ} → next ≡ after_path rest → PathScan f ps (i + 1) next w
  path_scan_next h l e t n =
      record { at = at_next s.at h n; scan = scan_next s.scan h (e ∙ ap f (l ∙ at_lead s.at h)) t }

  pub path_scan_end : length ps ≤ i → true ≡ w
  path_scan_end h = scan_end s.scan h
