-- A block of lines filled as they come, with the bytes that they take at most.
use Rattle.std.specs.Prelude.{ℕ, zero, suc, ◌+◌, ◌*◌, ◌<◌, ◌≤◌, ◌≡◌, refl, Bool, true, false, cond, length, get_or, take, drop}
use Rattle.std.proofs.Common.{sym, ◌∙◌, ap, ap₂, subst, arith, zero-add, add-one, length-append, take-suc, take_all, length-take-le}
use mathlib.Core.List.{List, [], ◌∷◌, ◌++◌, flatten, append-nil}
use Rattle.std.proofs.Math.Decide.{dec_lt}
use lib.Dec.{eqb, ltb}
use mir.Val.{bool_byte}
use borrow.Author.Tests.{lt-ltb, le-ltb, ltb-true, ltb-false, eq-eqb, ne_eqb}
use Rattle.meaning.specs.Limits.{block_lines}
use Rattle.meaning.specs.Salvage.{salvaged_line, drop_lines}
use Rattle.theory_salvage.specs.Windows.{window_in, window_behind, window_before}
use Rattle.write_bytes.specs.Wrote.{Wrote, wrote_more, wrote_none, wrote_is}
use Rattle.write_listing.specs.Blocks.{flatten_append}
use Rattle.write_salvage.specs.Lines.{WroteUpTo, drop_line}

-- line number i is one of the block that begins with line `start`
unfoldable pub in_block : ℕ → ℕ → Bool
in_block start i = cond (ltb i start) false (ltb i (start + block_lines))

unfoldable pub shown : ℕ → List (List ℕ) → List (List ℕ)
shown start lines = take block_lines (drop start lines)

-- Of the lines so far those of the block stand at the front of the buffer. A line has at most 42 bytes, some have more, in all `spare`
pub record Window (out end : List ℕ) (start : ℕ) (lines : List (List ℕ)) (at count spare : ℕ) : Type 0 where
  pub wrote : Wrote out end 0 (flatten (shown start lines)) at
  pub counted : count ≡ length lines
  pub room : at ≤ 42 * length (shown start lines) + spare

take_most : {A : Type 0} (n : ℕ) (l : List A) → length (take n l) ≤ n
take_most zero l = omega arith
take_most (suc n) [] = omega arith
take_most (suc n) (x ∷ l) = let h = take_most n l in omega arith

pub window_room : {out end : List ℕ} {start : ℕ} {lines : List (List ℕ)} {at count spare : ℕ} → Window out end start lines at count spare → at ≤ 43008 + spare
unfolding shown
window_room {start = start} {lines} w = let m = take_most block_lines (drop start lines) in let r = w.room in omega arith

-- More lines are put: none or one
pub record Puts (mid end : List ℕ) (start at count : ℕ) (more : List (List ℕ)) (next count' extra : ℕ) : Type 0 where
  pub goes : (out : List ℕ) (lines : List (List ℕ)) (spare : ℕ) → Window out mid start lines at count spare
      → Window out end start (lines ++ more) next count' (spare + extra)
  pub counts : count' ≤ count + 1
  pub grows : next ≤ at + (42 + extra)

in_low : (start i : ℕ) → in_block start i ≡ true → (start ≤ i) × (i < start + block_lines)
unfolding in_block
in_low start i = go (dec_lt i start)
  where
    go : Dec (i < start) → cond (ltb i start) false (ltb i (start + block_lines)) ≡ true → (start ≤ i) × (i < start + block_lines)
    go (yes l) e = absurd (no_false (sym (ap (λ (b : Bool). cond b false (ltb i (start + block_lines))) (lt-ltb i start l)) ∙ e))
      where
        no_false : false ≡ true → ⊥
        no_false h = subst lib.Dec.T (sym h) tt
    go (no n) e =
        (omega arith, ltb-true i (start + block_lines) (sym (ap (λ (b : Bool). cond b false (ltb i (start + block_lines))) (le-ltb i start (omega arith))) ∙ e))

-- its number is not one of the block: before it or behind
window_other : (start i : ℕ) (lines : List (List ℕ)) (line : List ℕ) → i ≡ length lines → in_block start i ≡ false
    → shown start (lines ++ (line ∷ [])) ≡ shown start lines
unfolding in_block shown
window_other start i lines line n = go (dec_lt i start)
  where
    go : Dec (i < start) → cond (ltb i start) false (ltb i (start + block_lines)) ≡ false
        → take block_lines (drop start (lines ++ (line ∷ []))) ≡ take block_lines (drop start lines)
    go (yes l) e = window_before start block_lines lines line (omega arith)
    go (no m) e =
        let h = ltb-false i (start + block_lines) (sym (ap (λ (b : Bool). cond b false (ltb i (start + block_lines))) (le-ltb i start (omega arith))) ∙ e) in
        window_behind start block_lines lines line (omega arith)

pub in_before : (start i : ℕ) → i < start → false ≡ in_block start i
unfolding in_block
in_before start i h = rw (lt-ltb i start h) refl

pub in_from : (start i : ℕ) → start ≤ i → ltb i (start + block_lines) ≡ in_block start i
unfolding in_block
in_from start i h = rw (le-ltb i start h) refl

pub puts_in : {mid end line : List ℕ} {at next : ℕ} (start count extra : ℕ) {b : Bool} → b ≡ in_block start count → b ≡ true → WroteUpTo (42 + extra) mid end at line next
    → Puts mid end start at count (line ∷ []) next (count + 1) extra
unfolding shown
puts_in {mid} {end} {line} {at} {next} start count extra f g u =
    let s = u.short in
    let a = u.wrote.after in
    record { goes = goes; counts = omega arith; grows = omega arith }
  where
    goes : (out : List ℕ) (lines : List (List ℕ)) (spare : ℕ) → Window out mid start lines at count spare
        → Window out end start (lines ++ (line ∷ [])) next (count + 1) (spare + extra)
    goes out lines spare w =
        let b = in_low start count (sym f ∙ g) in
        let n = w.counted in
        let same : take block_lines (drop start (lines ++ (line ∷ []))) ≡ take block_lines (drop start lines) ++ (line ∷ []) =
        window_in start block_lines lines line (let x = b.0 in omega arith) (let x = b.1 in omega arith) in
        let long = ap length same ∙ length-append (take block_lines (drop start lines)) (line ∷ []) in
        let s = u.short in
        let a = u.wrote.after in
        let r = w.room in
        record {
          wrote = wrote_is (sym (ap flatten same ∙ flatten_append (take block_lines (drop start lines)) line)) (wrote_more w.wrote u.wrote);
          counted = let l = length-append lines (line ∷ []) in omega arith;
          room = omega arith;
        }

pub puts_other : (mid line : List ℕ) (start at count extra : ℕ) {b : Bool} → b ≡ in_block start count → b ≡ false
    → Puts mid mid start at count (line ∷ []) at (count + 1) extra
puts_other mid line start at count extra f g = record { goes = goes; counts = omega arith; grows = omega arith }
  where
    goes : (out : List ℕ) (lines : List (List ℕ)) (spare : ℕ) → Window out mid start lines at count spare
        → Window out mid start (lines ++ (line ∷ [])) at (count + 1) (spare + extra)
    goes out lines spare w =
        let same = window_other start count lines line w.counted (sym f ∙ g) in
        let n = w.counted in
        let long = ap length same in
        let r = w.room in
        record {
          wrote = wrote_is (sym (ap flatten same)) w.wrote;
          counted = let l = length-append lines (line ∷ []) in omega arith;
          room = omega arith;
        }

pub puts_nothing : (mid : List ℕ) (start at count extra : ℕ) → Puts mid mid start at count [] at count extra
puts_nothing mid start at count extra = record { goes = goes; counts = omega arith; grows = omega arith }
  where
    goes : (out : List ℕ) (lines : List (List ℕ)) (spare : ℕ) → Window out mid start lines at count spare
        → Window out mid start (lines ++ []) at count (spare + extra)
    goes out lines spare w =
        subst (λ (l : List (List ℕ)). Window out mid start l at count (spare + extra)) (sym (append-nil lines))
        (let r = w.room in record { wrote = w.wrote; counted = w.counted; room = omega arith })

pub window_none : (out : List ℕ) (start : ℕ) → Window out out start [] 0 0 0
unfolding shown flatten
window_none out start =
    record {
      wrote = wrote_is (sym (ap flatten (none start))) (wrote_none out 0 (omega arith));
      counted = refl;
      room = omega arith;
    }
  where
    none : (k : ℕ) → take {A = List ℕ} block_lines (drop k []) ≡ []
    none zero = refl
    none (suc k) = refl

-- the line of a record: none where it was kept
unfoldable pub drop_of : ℕ → ℕ → List (List ℕ)
drop_of n r = cond (eqb r 0) [] (drop_line n r ∷ [])

pub drop_kept : (n r : ℕ) → r ≡ 0 → [] ≡ drop_of n r
unfolding drop_of
drop_kept n r e = rw (eq-eqb r 0 e) refl

pub drop_told : (n r : ℕ) → (r ≡ 0 → ⊥) → drop_line n r ∷ [] ≡ drop_of n r
unfolding drop_of
drop_told n r h = rw (ne_eqb r 0 h) refl

pub drops_more : (n : ℕ) (rs : List ℕ) (r : ℕ) → drop_lines n (rs ++ (r ∷ [])) ≡ drop_lines n rs ++ drop_of (n + length rs) r
unfolding drop_lines drop_of drop_line
drops_more n [] r = let e : n ≡ n + 0 = omega arith in ap (λ (m : ℕ). drop_of m r) e
drops_more n (s ∷ rs) r =
    let e : suc n + length rs ≡ n + suc (length rs) = omega arith in
    go (eqb s 0) (drops_more (suc n) rs r ∙ ap (λ (m : ℕ). drop_lines (suc n) rs ++ drop_of m r) e)
  where
    go : (b : Bool) → drop_lines (suc n) (rs ++ (r ∷ [])) ≡ drop_lines (suc n) rs ++ drop_of (n + suc (length rs)) r
        → cond b (drop_lines (suc n) (rs ++ (r ∷ []))) (drop_line n s ∷ drop_lines (suc n) (rs ++ (r ∷ [])))
        ≡ cond b (drop_lines (suc n) rs) (drop_line n s ∷ drop_lines (suc n) rs) ++ drop_of (n + suc (length rs)) r
    go true h = h
    go false h = ap (λ (l : List (List ℕ)). drop_line n s ∷ l) h

pub drops_most : (n : ℕ) (rs : List ℕ) → length (drop_lines n rs) ≤ length rs
unfolding drop_lines drop_line
drops_most n [] = omega arith
drops_most n (r ∷ rs) = go (eqb r 0) (drops_most (suc n) rs)
  where
    go : (b : Bool) → length (drop_lines (suc n) rs) ≤ length rs → length (cond b (drop_lines (suc n) rs) (drop_line n r ∷ drop_lines (suc n) rs)) ≤ suc (length rs)
    go true h = omega arith
    go false h = omega arith

-- the reasons of the first records, one more
pub drops_step : (reasons : List ℕ) (i : ℕ) → i < length reasons
    → drop_lines 0 (take (i + 1) reasons) ≡ drop_lines 0 (take i reasons) ++ drop_of i (get_or reasons i 0)
drops_step reasons i h =
    let l = length-take-le i reasons (omega arith) in
    let e : 0 + length (take i reasons) ≡ i = omega arith in
    ap (λ (n : ℕ). drop_lines 0 (take n reasons)) (add-one i) ∙ ap (drop_lines 0) (take-suc reasons i 0 h)
    ∙ drops_more 0 (take i reasons) (get_or reasons i 0) ∙ ap (λ (n : ℕ). drop_lines 0 (take i reasons) ++ drop_of n (get_or reasons i 0)) e

-- how many lines it is more
pub drops_count : (reasons : List ℕ) (i r n : ℕ) → i < length reasons → r ≡ get_or reasons i 0 → n ≡ cond (eqb r 0) 0 1
    → length (drop_lines 0 (take (i + 1) reasons)) ≡ length (drop_lines 0 (take i reasons)) + n
unfolding drop_of
drops_count reasons i r n h e f =
    ap length (drops_step reasons i h) ∙ (length-append (drop_lines 0 (take i reasons)) (drop_of i (get_or reasons i 0))
    ∙ ap (λ (m : ℕ). length (drop_lines 0 (take i reasons)) + m) (ap (λ (m : ℕ). length (drop_of i m)) (sym e) ∙ (go (eqb r 0) ∙ sym f)))
  where
    go : (b : Bool) → length (cond b [] (drop_line i r ∷ [])) ≡ cond b 0 1
    go true = refl
    go false = refl

-- the reasons, and that of the record at which the walk stopped, where it did
unfoldable pub told : List ℕ → ℕ → List ℕ
told reasons stopped = reasons ++ cond (eqb stopped 0) [] (stopped ∷ [])

-- the lines before those of the keys
unfoldable pub dropped_lines : List ℕ → List (List ℕ)
dropped_lines reasons = salvaged_line (length (drop_lines 0 reasons)) ∷ drop_lines 0 reasons

drops_told : (reasons : List ℕ) (stopped : ℕ) → drop_lines 0 reasons ++ drop_of (length reasons) stopped ≡ drop_lines 0 (told reasons stopped)
unfolding told drop_of
drops_told reasons stopped = go (eqb stopped 0) refl
  where
    go : (b : Bool) → eqb stopped 0 ≡ b → drop_lines 0 reasons ++ cond b [] (drop_line (length reasons) stopped ∷ [])
        ≡ drop_lines 0 (reasons ++ cond b [] (stopped ∷ []))
    go true e = append-nil (drop_lines 0 reasons) ∙ ap (drop_lines 0) (sym (append-nil reasons))
    go false e =
        ap (λ (l : List (List ℕ)). drop_lines 0 reasons ++ l) (drop_told (length reasons) stopped (borrow.Author.Tests.eqb-false stopped 0 e))
        ∙ (ap (λ (n : ℕ). drop_lines 0 reasons ++ drop_of n stopped) (sym (zero-add (length reasons))) ∙ sym (drops_more 0 reasons stopped))

told_count : (reasons : List ℕ) (stopped : ℕ) → stopped ≤ 1 → length (drop_lines 0 reasons) + stopped ≡ length (drop_lines 0 (told reasons stopped))
unfolding drop_of
told_count reasons stopped h = count stopped h ∙ (sym (length-append (drop_lines 0 reasons) (drop_of (length reasons) stopped)) ∙ ap length (drops_told reasons stopped))
  where
    count : (n : ℕ) → n ≤ 1 → length (drop_lines 0 reasons) + n ≡ length (drop_lines 0 reasons) + length (drop_of (length reasons) n)
    count zero l = refl
    count (suc zero) l = refl
    count (suc (suc n)) l = absurd (omega arith)

-- the number of a Bool
pub one_if : (b : Bool) → bool_byte b ≡ cond b 1 0
one_if true = refl
one_if false = refl

one_at_most : (b : Bool) → cond b 1 0 ≤ 1
one_at_most true = omega arith
one_at_most false = omega arith

-- the first line and those of the records, and that of the last
pub dropped_all : {out mid end : List ℕ} {start at count next count' : ℕ} (reasons : List ℕ) (dropped n : ℕ) (stopped : Bool) → n ≡ cond stopped 1 0
    → dropped ≡ length (drop_lines 0 reasons) → Window out mid start (salvaged_line (dropped + n) ∷ drop_lines 0 reasons) at count 0
    → Puts mid end start at count (drop_of (length reasons) n) next count' 0
    → Window out end start (dropped_lines (told reasons (cond stopped 1 0))) next count' 0
unfolding dropped_lines
dropped_all {out} {end = end} {start} {next = next} {count' = count'} reasons dropped n stopped f e w p =
    let h : n ≤ 1 = subst (λ (m : ℕ). m ≤ 1) (sym f) (one_at_most stopped) in
    subst (λ (m : ℕ). Window out end start (salvaged_line (length (drop_lines 0 (told reasons m))) ∷ drop_lines 0 (told reasons m)) next count' 0) f
    (subst (λ (l : List (List ℕ)). Window out end start l next count' 0)
    (ap₂ (λ (m : ℕ) (l : List (List ℕ)). salvaged_line m ∷ l) (ap (λ (m : ℕ). m + n) e ∙ told_count reasons n h) (drops_told reasons n)) (p.goes out _ 0 w))

-- The loop over the records: more lines since the first
pub record Since (out₀ out : List ℕ) (start : ℕ) (head : List ℕ) (rest : List (List ℕ)) (at₀ count₀ at count : ℕ) : Type 0 where
  pub entry : List ℕ
  pub began : Window entry out₀ start (head ∷ []) at₀ count₀ 0
  pub goes : (e : List ℕ) → Window e out₀ start (head ∷ []) at₀ count₀ 0 → Window e out start (head ∷ rest) at count 0

pub since_begin : {entry out head : List ℕ} {start at count : ℕ} (reasons : List ℕ) → Window entry out start (head ∷ []) at count 0
    → Since out out start head (drop_lines 0 (take 0 reasons)) at count at count
unfolding drop_lines
since_begin {entry} reasons w = record { entry = entry; began = w; goes = λ e v. v }

pub since_room : {out₀ out head : List ℕ} {rest : List (List ℕ)} {start at₀ count₀ at count : ℕ} → Since out₀ out start head rest at₀ count₀ at count → at ≤ 43008
since_room s = let r = window_room (s.goes s.entry s.began) in omega arith

module _ {out₀ mid head : List ℕ} {start at₀ count₀ at count : ℕ} (reasons : List ℕ) (i : ℕ)
    (s : Since out₀ mid start head (drop_lines 0 (take i reasons)) at₀ count₀ at count) where
  pub since_step : {end : List ℕ} {next count' r : ℕ} → i < length reasons → r ≡ get_or reasons i 0 → Puts mid end start at count (drop_of i r) next count' 0
      → Since out₀ end start head (drop_lines 0 (take (i + 1) reasons)) at₀ count₀ next count'
  since_step {end} {next} {count'} h e p =
      record {
        entry = s.entry;
        began = s.began;
        goes = λ o w. subst (λ (l : List (List ℕ)). Window o end start (head ∷ l) next count' 0)
            (ap (λ (n : ℕ). drop_lines 0 (take i reasons) ++ drop_of i n) e ∙ sym (drops_step reasons i h)) (p.goes o _ 0 (s.goes o w));
      }

  pub since_all : {entry : List ℕ} → length reasons ≤ i → Window entry out₀ start (head ∷ []) at₀ count₀ 0
      → Window entry mid start (head ∷ drop_lines 0 reasons) at count 0
  since_all {entry} h w =
      subst (λ (l : List ℕ). Window entry mid start (head ∷ drop_lines 0 l) at count 0) (take_all i reasons h) (s.goes entry w)

-- how many lines there are at most
pub dropped_most : {out end : List ℕ} {start at count spare : ℕ} (reasons : List ℕ) (stopped : Bool)
    → Window out end start (dropped_lines (told reasons (cond stopped 1 0))) at count spare → count ≤ length reasons + 2
unfolding dropped_lines
dropped_most reasons stopped w =
    let m = drops_most 0 reasons in
    let h = one_at_most stopped in
    let c = told_count reasons (cond stopped 1 0) h in
    let n = w.counted in
    omega arith

-- the first line
pub first_in : {out end line : List ℕ} {next : ℕ} (start : ℕ) {b : Bool} → b ≡ in_block start 0 → b ≡ true → WroteUpTo 42 out end 0 line next
    → Window out end start (line ∷ []) next 1 0
first_in {out} start f g u = (puts_in start 0 0 f g u).goes out [] 0 (window_none out start)

pub first_other : (out line : List ℕ) (start : ℕ) {b : Bool} → b ≡ in_block start 0 → b ≡ false → Window out out start (line ∷ []) 0 1 0
first_other out line start f g = (puts_other out line start 0 0 0 f g).goes out [] 0 (window_none out start)

-- a record's line
pub reason_kept : (mid : List ℕ) (start at count n r : ℕ) → r ≡ 0 → Puts mid mid start at count (drop_of n r) at count 0
reason_kept mid start at count n r e =
    subst (λ (l : List (List ℕ)). Puts mid mid start at count l at count 0) (drop_kept n r e) (puts_nothing mid start at count 0)

pub reason_in : {mid end : List ℕ} {at next : ℕ} (start count n r : ℕ) → (r ≡ 0 → ⊥) → {b : Bool} → b ≡ in_block start count → b ≡ true
    → WroteUpTo 42 mid end at (drop_line n r) next → Puts mid end start at count (drop_of n r) next (count + 1) 0
reason_in {mid} {end} {at} {next} start count n r h f g u =
    subst (λ (l : List (List ℕ)). Puts mid end start at count l next (count + 1) 0) (drop_told n r h) (puts_in start count 0 f g u)

pub reason_other : (mid : List ℕ) (start at count n r : ℕ) → (r ≡ 0 → ⊥) → {b : Bool} → b ≡ in_block start count → b ≡ false
    → Puts mid mid start at count (drop_of n r) at (count + 1) 0
reason_other mid start at count n r h f g =
    subst (λ (l : List (List ℕ)). Puts mid mid start at count l at (count + 1) 0) (drop_told n r h) (puts_other mid (drop_line n r) start at count 0 f g)
