-- Document 01, the bench examples: for each row of the one table, the pattern's steps lead from t to q where the row says I, and do not where
-- it says N. Beside the table stand hints, a route or a border for each row, which the prover checks by computing.
use Rattle.std.specs.Prelude.{ℕ, Bool, true, false, ◌&&◌, not, List, [], ◌∷◌, T}
use Rattle.meaning.specs.Lists
use Rattle.meaning.specs.Lists.{Each, end, also}
use Rattle.meaning.specs.Paths
use Rattle.meaning.specs.Paths.{member, front, any_end, singles, class_of}
use Rattle.meaning.specs.Trees.{table_of}
use Rattle.meaning.specs.Pattern
use Rattle.meaning.specs.Pattern.{q_of, t_of, Leads}
use Rattle.theory_lists.specs.Bools.{and_left, and_right}
use Rattle.theory_trees.specs.Climb.{reaches, reaches_from}
use Rattle.theory_rows.specs.Bench.{Row, bench, rows}
use Rattle.theory_rows.specs.StepTests.{Hop, route, border, lands_test, key_test, up_test, step_test, parents_test, route_leads, border_holds}

-- What shows a row's verdict: a route from t to q, or a border between them
pub data Hint : Type 0 where
  by : List Hop → Hint
  stuck_at : ℕ → Hint

hop : ℕ → ℕ → Hop
hop x y = record { from = x; to = y }

unfoldable pub hints : List Hint
unfolding hop
hints =
    by (hop 2 0 ∷ []) ∷ stuck_at 1 ∷ by (hop 2 0 ∷ []) ∷ stuck_at 1 ∷ by (hop 2 1 ∷ hop 1 0 ∷ []) ∷ by [] ∷ by (hop 2 0 ∷ []) ∷ stuck_at 1 ∷ stuck_at 1
    ∷ stuck_at 1 ∷ by (hop 1 0 ∷ []) ∷ stuck_at 2 ∷ by (hop 2 1 ∷ []) ∷ []

-- the labels that are single in the row's edition
unfoldable pub single_of : Row → ℕ → Bool
single_of r = singles r.second (class_of bench)

unfoldable pub shows : Row → Hint → Bool
shows r (by hops) = r.implied && route (single_of r) r.keys r.asked (t_of r.asked) hops
shows r (stuck_at m) = not r.implied && border (single_of r) r.keys r.asked m

unfoldable pub all_shown : List Row → List Hint → Bool
all_shown [] hs = true
all_shown (r ∷ rs) [] = false
all_shown (r ∷ rs) (h ∷ hs) = shows r h && all_shown rs hs

-- the row's verdict is that of the steps
unfoldable pub RowHolds : Row → Type 0
RowHolds r =
    (T r.implied → Leads (single_of r) r.keys r.asked (t_of r.asked) (q_of r.asked))
    × (T (not r.implied) → Leads (single_of r) r.keys r.asked (t_of r.asked) (q_of r.asked) → ⊥)

not_both : (b : Bool) → T b → T (not b) → ⊥
not_both true p q = q
not_both false p q = p

shown_holds : (r : Row) (h : Hint) → T (shows r h) → RowHolds r
unfolding shows RowHolds
shown_holds r (by hops) s =
    (λ i. route_leads (single_of r) r.keys r.asked (t_of r.asked) hops (and_right r.implied _ s), λ n. absurd (not_both r.implied (and_left r.implied _ s) n))
shown_holds r (stuck_at m) s =
    (λ i. absurd (not_both r.implied i (and_left (not r.implied) _ s)), λ n. border_holds (single_of r) r.keys r.asked m (and_right (not r.implied) _ s))

all_hold : (rs : List Row) (hs : List Hint) → T (all_shown rs hs) → Each RowHolds rs
unfolding all_shown
all_hold [] hs s = end
all_hold (r ∷ rs) [] s = absurd s
all_hold (r ∷ rs) (h ∷ hs) s = also (shown_holds r h (and_left (shows r h) _ s)) (all_hold rs hs (and_right (shows r h) _ s))

pub steps_agree : Each RowHolds rows
unfolding rows bench hints shows single_of all_shown route border lands_test key_test up_test step_test parents_test Paths.singles Paths.class_of Paths.declared_class
    Paths.is_attribute reaches reaches_from member front any_end table_of
    Lists.every Lists.any Lists.is_empty Lists.numbers Pattern.drawn Pattern.run Pattern.branches Pattern.q_of Pattern.t_of Pattern.pattern_nodes
    Pattern.pattern Pattern.ends Pattern.marked
steps_agree = all_hold rows hints tt
