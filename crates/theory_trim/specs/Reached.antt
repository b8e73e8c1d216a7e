-- 02, request 10: "removes lines from which that line is not reached through premises": a line stays exactly when the end is reached from it; and in what
-- is left the last line is reached from every line.
use Prim.Native.Nat.{ℕ, zero, suc, ◌+◌, ◌-◌, ◌≤◌, ◌<◌}
use Rattle.std.specs.Prelude.{◌≡◌, ◌⊎◌, Bool, length}
use Rattle.std.proofs.Common.{sym, subst, inl, inr, arith}
use mathlib.Core.List.Memᴰ
use mathlib.Core.List.{List, [], ◌∷◌, Memᴰ}
use Rattle.std.proofs.Math.Option.{some}
use Rattle.std.proofs.Math.Decide.{dec_lt}
use Rattle.std.proofs.Math.ListN.{get_elem?}
use Rattle.meaning.specs.Paths.{Label}
use Rattle.meaning.specs.Keys.{Key}
use Rattle.meaning.specs.Rules.{Line, Accepted, line_keys}
use Rattle.meaning.specs.Trimming.{earliest, pointed, premises, line_at, needed, trimmed_lines}
use Rattle.theory_lists.specs.Logic.{found_below}
use Rattle.theory_trim.specs.Numbered.{map_mem}
use Rattle.theory_trim.specs.Needs.{wants, WantedBy, needs_below, needs_wanted, needs_why}
use Rattle.theory_trim.specs.Trimmed.{UsedLater, stay_needs, pointed_stays, trimmed_used}

-- from line n the end is reached, through premises that point to the earliest line with their key
pub data Reaches (lines : List Line) (end : ℕ) : ℕ → Type 0 where
  the_end : {n : ℕ} → n ≡ end → Reaches lines end n
  premise_of : {n : ℕ} (m x : ℕ) → Reaches lines end m → Memᴰ x (premises (line_at lines m)) → n ≡ pointed lines x → Reaches lines end n

-- line j is reached from line i, through premises as they stand
pub data Leads (lines : List Line) (j : ℕ) : ℕ → Type 0 where
  itself : {i : ℕ} → i ≡ j → Leads lines j i
  through : {i : ℕ} (m : ℕ) (line : Line) → get_elem? lines m ≡ some line → Memᴰ i (premises line) → Leads lines j m → Leads lines j i

module _ (single : ℕ → Bool) (labels : List Label) (keys : List Key) (question : Key) (lines : List Line)
    (a : Accepted single labels keys question lines) where
  pub reached_stays : {n : ℕ} → Reaches lines (earliest (line_keys lines) question) n → Memᴰ n (needed lines question)
  reached_stays (the_end e) = needs_wanted (stay_needs single labels keys question lines a) _ (Memᴰ.head e) (omega arith)
  reached_stays (premise_of m x r p e) =
      subst (λ (k : ℕ). Memᴰ k (needed lines question)) (sym e) (pointed_stays single labels keys question lines a m x (reached_stays r) p).0

  from_below : (d n : ℕ) → earliest (line_keys lines) question < n + d → Memᴰ n (needed lines question)
      → Reaches lines (earliest (line_keys lines) question) n
  unfolding wants
  from_below zero n h m = absurd (let k = needs_below (stay_needs single labels keys question lines a) n m in omega arith)
  from_below (suc d) n h m = go (λ k l q. from_below d k l q) (needs_why (stay_needs single labels keys question lines a) n m)
    where
      go : ((k : ℕ) → earliest (line_keys lines) question < k + d → Memᴰ k (needed lines question) → Reaches lines (earliest (line_keys lines) question) k)
          → Memᴰ n (earliest (line_keys lines) question ∷ []) ⊎ WantedBy lines (needed lines question) n
          → Reaches lines (earliest (line_keys lines) question) n
      go more (inl e) = the_end (Memᴰ.eq_of_singleton e)
      go more (inr b) =
          let i = map_mem (pointed lines) (premises (line_at lines b.by)) b.among in
          premise_of b.by i.member (more b.by (let l = b.later in omega arith) b.stays) i.among i.is

  pub stays_reached : (n : ℕ) → Memᴰ n (needed lines question) → Reaches lines (earliest (line_keys lines) question) n
  stays_reached n m = from_below (suc (earliest (line_keys lines) question)) n (omega arith) m

  -- "no line in it is unused": the last line is reached from every line
  leads_from : (d i : ℕ) → i < length (trimmed_lines lines question) → length (trimmed_lines lines question) ≤ i + d
      → Leads (trimmed_lines lines question) (length (trimmed_lines lines question) - 1) i
  leads_from zero i h k = absurd (omega arith)
  leads_from (suc d) i h k = go (λ j p q. leads_from d j p q) (dec_lt i (length (trimmed_lines lines question) - 1))
    where
      by_use : ((j : ℕ) → j < length (trimmed_lines lines question) → length (trimmed_lines lines question) ≤ j + d
          → Leads (trimmed_lines lines question) (length (trimmed_lines lines question) - 1) j)
          → UsedLater (trimmed_lines lines question) i → Leads (trimmed_lines lines question) (length (trimmed_lines lines question) - 1) i
      by_use more u =
          through u.by u.line u.stands u.among
          (more u.by (found_below (trimmed_lines lines question) u.by u.stands) (let l = u.later in omega arith))

      go : ((j : ℕ) → j < length (trimmed_lines lines question) → length (trimmed_lines lines question) ≤ j + d
          → Leads (trimmed_lines lines question) (length (trimmed_lines lines question) - 1) j)
          → Dec (i < length (trimmed_lines lines question) - 1) → Leads (trimmed_lines lines question) (length (trimmed_lines lines question) - 1) i
      go more (yes l) = by_use more (trimmed_used single labels keys question lines a i l)
      go more (no l) = let e : i ≡ length (trimmed_lines lines question) - 1 = omega arith in itself e

  pub trimmed_reached : (i : ℕ) → i < length (trimmed_lines lines question)
      → Leads (trimmed_lines lines question) (length (trimmed_lines lines question) - 1) i
  trimmed_reached i h = leads_from (length (trimmed_lines lines question)) i h (omega arith)
