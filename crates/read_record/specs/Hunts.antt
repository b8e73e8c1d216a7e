-- Looking for a key path from the first to the last: a law for each return and each turn.
use Rattle.std.specs.Prelude.{ℕ, ◌+◌, ◌<◌, ◌≤◌, ◌≡◌, refl, Bool, true, false, ◌||◌, length, get_or, drop}
use Rattle.std.proofs.Math.Path.{sym, ap}
use Rattle.std.proofs.Common.{◌∙◌, add-one, arith, drop_of_length-le, drop-cons}
use mathlib.Core.List.{List, [], ◌∷◌}
use Rattle.meaning.specs.Lists.{any, is_empty}
use Rattle.theory_lists.specs.Lists.{empty_length, some_length}
use Rattle.read_record.specs.BodyParts.{holds_path, lead_path, after_path}
use Rattle.read_record.specs.KeyPaths.{AtPath, at_holds, at_lead, at_next}

pub path_step : (ps : List (List ℕ)) (i : ℕ) → i < length ps → drop i ps ≡ get_or ps i [] ∷ drop (i + 1) ps
path_step ps i h = rw add-one (drop-cons ps i [] h)

-- the walk stands at path i of n
pub record Stands (ps : List (List ℕ)) (n i : ℕ) (rest : List ℕ) : Type 0 where
  pub at : AtPath ps i rest
  pub number : n ≡ length ps
  pub within : i ≤ n

module _ {ps : List (List ℕ)} {n i : ℕ} {rest : List ℕ} (s : Stands ps n i rest) (h : i < n) where
  pub here : i < length ps
  here = let e = s.number in omega arith

  pub stands_holds : holds_path rest ≡ true
  stands_holds = at_holds s.at here

  pub stands_lead : lead_path rest ≡ get_or ps i []
  stands_lead = at_lead s.at here

  pub stands_next : {next : List ℕ} → next ≡ after_path rest → Stands ps n (i + 1) next
  stands_next e = record { at = at_next s.at here e; number = s.number; within = omega arith }

-- A search for f: some path passes exactly where some path that is left does
pub record Hunt (f : List ℕ → Bool) (ps : List (List ℕ)) (n i : ℕ) (rest : List ℕ) : Type 0 where
  pub stands : Stands ps n i rest
  pub left : any f (drop i ps) ≡ any f ps

pub hunt_start : (f : List ℕ → Bool) {ps : List (List ℕ)} {n : ℕ} {rest : List ℕ} → n ≡ length ps → AtPath ps 0 rest → Hunt f ps n 0 rest
hunt_start f e a = record { stands = record { at = a; number = e; within = omega arith }; left = refl }

module _ {f : List ℕ → Bool} {ps : List (List ℕ)} {n i : ℕ} {rest : List ℕ} (s : Hunt f ps n i rest) where
  module _ (h : i < n) where
    split : any f ps ≡ (f (lead_path rest) || any f (drop (i + 1) ps))
    unfolding any
    split =
        sym s.left ∙ ap (any f) (path_step ps i (here s.stands h))
        ∙ ap (λ (p : List ℕ). f p || any f (drop (i + 1) ps)) (sym (stands_lead s.stands h))

    pub hunt_holds : holds_path rest ≡ true
    hunt_holds = stands_holds s.stands h

    pub hunt_found : f (lead_path rest) ≡ true → true ≡ any f ps
    hunt_found t = sym (split ∙ ap (λ (b : Bool). b || any f (drop (i + 1) ps)) t)

    pub hunt_next : f (lead_path rest) ≡ false → {next : List ℕ} → next ≡ after_path rest → Hunt f ps n (i + 1) next
    hunt_next t e =
        record { stands = stands_next s.stands h e; left = sym (split ∙ ap (λ (b : Bool). b || any f (drop (i + 1) ps)) t) }

    -- by a callee's answer on the path that was read
    pub hunt_hit : {lead : List ℕ} → lead ≡ lead_path rest → {r : Bool} → r ≡ f lead → r ≡ true → true ≡ any f ps
    hunt_hit e q t = hunt_found (ap f (sym e) ∙ sym q ∙ t)

    pub hunt_miss : {lead : List ℕ} → lead ≡ lead_path rest → {r : Bool} → r ≡ f lead → r ≡ false → {next : List ℕ} → next ≡ after_path rest
        → Hunt f ps n (i + 1) next
    hunt_miss e q t = hunt_next (ap f (sym e) ∙ sym q ∙ t)

  pub hunt_done : n ≤ i → false ≡ any f ps
  unfolding any
  hunt_done h = let e = s.stands.number in sym (ap (any f) (drop_of_length-le ps {i = i} (omega arith))) ∙ s.left

-- the path is empty, by its length
pub empty_yes : {l p : List ℕ} → l ≡ p → length l ≡ 0 → is_empty p ≡ true
empty_yes {l} e h = ap is_empty (sym e) ∙ empty_length l h

pub empty_no : {l p : List ℕ} → l ≡ p → (length l ≡ 0 → ⊥) → is_empty p ≡ false
empty_no {l} e h = ap is_empty (sym e) ∙ some_length l h
