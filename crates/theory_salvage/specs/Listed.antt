-- The contracts of the two operations of salvage have one answer each; their refusal names its input where it has a number.
use Rattle.std.specs.Prelude.{ℕ, ◌≡◌, refl, Bool, List, ◌∷◌, ◌++◌, length}
use Rattle.std.proofs.Common.{sym, ◌∙◌, ap, ap₂}
use Rattle.meaning.specs.Paths.{Class, Label}
use Rattle.meaning.specs.Trees.{Table}
use Rattle.meaning.specs.Keys.{Key, Keeps}
use Rattle.meaning.specs.Operations.{Answer, filled, listed}
use Rattle.meaning.specs.Salvage.{salvage_refusal, BrokenLines, judged_all, keeps_one, breaks_one, broken_line, SalvageListed, salvaged_line, drop_lines, reasons_in, block_of, Salvages, ListsSalvage}
use Rattle.theory_trees.specs.Witness.{shows_breaks, first_unique}
use Rattle.theory_answers.specs.Refusing.{Settled, first_settled}
use Rattle.theory_answers.specs.Unique.{unless_unique}

pub salvage_settled : (second : Bool) (labels : List Label) (bytes : List ℕ) → Settled (salvage_refusal second labels bytes)
unfolding salvage_refusal
salvage_settled second labels bytes = first_settled _

pub salvages_unique : (profile tree buffer : List ℕ) (a b : Answer) → Salvages profile tree buffer a → Salvages profile tree buffer b → a ≡ b
unfolding Salvages
salvages_unique profile tree buffer a b = unless_unique _ _ _ (λ x y p q. p ∙ sym q) a b

pub broken_unique : {κ : ℕ → Class} {t : Table} {n : ℕ} {keys : List Key} {ms ns : List (List ℕ)} → BrokenLines κ t n keys ms → BrokenLines κ t n keys ns → ms ≡ ns
unfolding Keeps
broken_unique judged_all judged_all = refl
broken_unique (keeps_one k p) (keeps_one l q) = broken_unique p q
broken_unique (keeps_one k p) (breaks_one ns w q) = absurd (k (shows_breaks w.shows))
broken_unique (breaks_one ms v p) (keeps_one l q) = absurd (l (shows_breaks v.shows))
broken_unique (breaks_one {n = n} ms v p) (breaks_one ns w q) =
    ap₂ (λ (line : List ℕ) (lines : List (List ℕ)). line ∷ lines) (ap (broken_line n) (first_unique v w)) (broken_unique p q)

pub listed_unique : (second : Bool) (labels : List Label) (keys : List Key) (bytes : List ℕ) (ms ns : List (List ℕ))
    → SalvageListed second labels keys bytes ms → SalvageListed second labels keys bytes ns → ms ≡ ns
listed_unique second labels keys bytes ms ns v w =
    v.are
    ∙ (ap (λ (lines : List (List ℕ)). salvaged_line (length (drop_lines 0 (reasons_in second labels bytes))) ∷ (drop_lines 0 (reasons_in second labels bytes) ++ lines)) (broken_unique v.judged w.judged)
    ∙ sym w.are)

pub lists_salvage_unique : (profile tree : List ℕ) (k : ℕ) (buffer : List ℕ) (a b : Answer) → ListsSalvage profile tree k buffer a
    → ListsSalvage profile tree k buffer b → a ≡ b
unfolding ListsSalvage
lists_salvage_unique profile tree k buffer a b =
    unless_unique _ _ _
    (λ x y p q. p.2 ∙ (ap (λ (lines : List (List ℕ)). filled listed (block_of lines k) buffer) (listed_unique _ _ _ tree p.0 q.0 p.1 q.1) ∙ sym q.2)) a b
