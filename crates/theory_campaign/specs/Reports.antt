-- Counts of two lists one after the other add, a report is one, and in it each key's counts make the number of inputs.
use Rattle.std.specs.Prelude.{ℕ, zero, suc, ◌+◌, ◌<◌, ◌≤◌, ◌≡◌, refl, ltb, length}
use Rattle.std.proofs.Common.{sym, ◌∙◌, ap, ap₂, subst, arith}
use Rattle.std.proofs.Math.Path.{fun_ext}
use mathlib.Core.List.{List, [], ◌∷◌, ◌++◌, map, flatten}
use Rattle.std.proofs.Math.Option.{none, some}
use Rattle.std.proofs.Math.ListN.{get_elem?}
use Rattle.meaning.specs.Lists.{numbers, keep}
use Rattle.meaning.specs.Keys.{Key}
use Rattle.meaning.specs.Listing.{decimal, space, newline}
use Rattle.meaning.specs.Operations.{Answer, filled, reported, second_in, labels_in, keys_in}
use Rattle.meaning.specs.Campaign.{Segment, Counted, none, one, other, Counts, IsReport, key_line, refusal_line, last_number, occurred, report_bytes, Reports}
use Rattle.theory_answers.specs.Unique.{unless_unique}
use Rattle.theory_campaign.specs.Numbers.{tree_number}
use Rattle.theory_campaign.specs.Counting.{counted_unique, sum_from, sums}

module _ {A : Type 0} {Q : A → Type 0} where
  -- one input more at the end
  pub counted_snoc : {xs : List A} {n : ℕ} (x : A) → Counted Q xs n → Q x → Counted Q (xs ++ (x ∷ [])) (suc n)
  counted_snoc x none q = one q none
  counted_snoc x (one p c) q = one p (counted_snoc x c q)
  counted_snoc x (other p c) q = other p (counted_snoc x c q)

  pub counted_snoc_not : {xs : List A} {n : ℕ} (x : A) → Counted Q xs n → (Q x → ⊥) → Counted Q (xs ++ (x ∷ [])) n
  counted_snoc_not x none q = other q none
  counted_snoc_not x (one p c) q = one p (counted_snoc_not x c q)
  counted_snoc_not x (other p c) q = other p (counted_snoc_not x c q)

  -- the counts of two lists one after the other are the sums
  pub counted_append : {xs ys : List A} {m n : ℕ} → Counted Q xs m → Counted Q ys n → Counted Q (xs ++ ys) (m + n)
  counted_append {ys = ys} {n = n} none d = subst (λ (k : ℕ). Counted Q ys k) (none_more n) d
    where
      none_more : (a : ℕ) → a ≡ 0 + a
      none_more a = omega arith
  counted_append {ys = ys} {n = n} (one {x = x} {xs = xs} {n = m} p c) d =
      subst (λ (k : ℕ). Counted Q (x ∷ (xs ++ ys)) k) (one_more m n) (one p (counted_append c d))
    where
      one_more : (a b : ℕ) → suc (a + b) ≡ suc a + b
      one_more a b = omega arith
  counted_append (other p c) d = other p (counted_append c d)

  pub counted_at_most : {xs : List A} {n : ℕ} → Counted Q xs n → n ≤ length xs
  counted_at_most none = omega arith
  counted_at_most (one p c) = let h = counted_at_most c in omega arith
  counted_at_most (other p c) = let h = counted_at_most c in omega arith

-- Reports add
unfoldable pub together : Counts → Counts → Counts
together c d =
    record {
      kept = λ n. c.kept n + d.kept n;
      broken = λ n. c.broken n + d.broken n;
      refused = λ n. c.refused n + d.refused n;
      unread = c.unread + d.unread;
    }

pub reports_add : (profile : List ℕ) (xs ys : List Segment) (c d : Counts) → IsReport profile xs c → IsReport profile ys d → IsReport profile (xs ++ ys) (together c d)
unfolding together
reports_add profile xs ys c d p q =
    record {
      kept = λ n key e. counted_append (p.kept n key e) (q.kept n key e);
      broken = λ n key e. counted_append (p.broken n key e) (q.broken n key e);
      refused = λ n. counted_append (p.refused n) (q.refused n);
      unread = counted_append p.unread q.unread;
    }

-- "for each key kept, broken, refused and unread together make the number of inputs"
pub report_sums : (profile : List ℕ) (segments : List Segment) (c : Counts) → IsReport profile segments c → (n : ℕ) (key : Key) → get_elem? (keys_in profile) n ≡ some key
    → c.kept n + c.broken n + sum_from c.refused last_number 1 + c.unread ≡ length segments
report_sums profile segments c r n key e =
    sums profile key (λ tree. tree_number (second_in profile) (labels_in profile) tree) segments (c.kept n) (c.broken n) c.unread c.refused
    (r.kept n key e) (r.broken n key e) r.refused r.unread

-- There is one report
pub nth_some : {A : Type 0} (xs : List A) (n : ℕ) → n < length xs → (x : A) × (get_elem? xs n ≡ some x)
nth_some [] n h = absurd (omega arith)
nth_some (x ∷ xs) zero h = (x, refl)
nth_some (x ∷ xs) (suc n) h = nth_some xs n (omega arith)

map_numbers : (f g : ℕ → List ℕ) (k n : ℕ) → ((i : ℕ) → i < n + k → f i ≡ g i) → map f (numbers k n) ≡ map g (numbers k n)
unfolding numbers
map_numbers f g zero n e = refl
map_numbers f g (suc k) n e = ap₂ (λ (x : List ℕ) (xs : List (List ℕ)). x ∷ xs) (e n (omega arith)) (map_numbers f g k (suc n) (λ i h. e i (omega arith)))

key_line_same : (c d : Counts) (n : ℕ) → c.kept n ≡ d.kept n → c.broken n ≡ d.broken n → key_line c n ≡ key_line d n
unfolding key_line
key_line_same c d n p q = ap₂ (λ (a b : ℕ). decimal n ++ (space ++ (decimal a ++ (space ++ (decimal b ++ newline))))) p q

occurred_of : (ℕ → ℕ) → List ℕ
occurred_of f = keep (λ (number : ℕ). ltb 0 (f number)) (numbers last_number 1)

refusal_of : (ℕ → ℕ) → ℕ → List ℕ
refusal_of f number = decimal number ++ (space ++ (decimal (f number) ++ newline))

refused_lines : (c : Counts) → flatten (map (refusal_line c) (occurred c)) ≡ flatten (map (refusal_of c.refused) (occurred_of c.refused))
unfolding refusal_line occurred occurred_of refusal_of
refused_lines c = refl

pub report_same : (keys : ℕ) (c d : Counts) → ((n : ℕ) → n < keys → (c.kept n ≡ d.kept n) × (c.broken n ≡ d.broken n))
    → ((n : ℕ) → c.refused n ≡ d.refused n) → c.unread ≡ d.unread → report_bytes keys c ≡ report_bytes keys d
unfolding report_bytes
report_same keys c d k r u =
    let first : map (key_line c) (numbers keys 0) ≡ map (key_line d) (numbers keys 0) =
    map_numbers (key_line c) (key_line d) keys 0 (λ i h. let e = k i (omega arith) in key_line_same c d i e.0 e.1) in
    let f : c.refused ≡ d.refused = fun_ext r in
    let second : flatten (map (refusal_line c) (occurred c)) ≡ flatten (map (refusal_line d) (occurred d)) =
    refused_lines c ∙ (ap (λ (g : ℕ → ℕ). flatten (map (refusal_of g) (occurred_of g))) f ∙ sym (refused_lines d)) in
    ap₂ (λ (xs : List ℕ) (ys : List ℕ). xs ++ ys) (ap flatten first)
    (ap₂ (λ (xs : List ℕ) (n : ℕ). xs ++ ((117 ∷ 110 ∷ 114 ∷ 101 ∷ 97 ∷ 100 ∷ 32 ∷ []) ++ (decimal n ++ newline))) second u)

pub report_unique : (profile : List ℕ) (segments : List Segment) (c d : Counts) → IsReport profile segments c → IsReport profile segments d
    → report_bytes (length (keys_in profile)) c ≡ report_bytes (length (keys_in profile)) d
report_unique profile segments c d p q =
    report_same (length (keys_in profile)) c d
    (λ n h.
    let k = nth_some (keys_in profile) n h in
    (counted_unique (p.kept n k.0 k.1) (q.kept n k.0 k.1), counted_unique (p.broken n k.0 k.1) (q.broken n k.0 k.1)))
    (λ n. counted_unique (p.refused n) (q.refused n))
    (counted_unique p.unread q.unread)

pub reports_unique : (list profile : List ℕ) (segments : List Segment) (buffer : List ℕ) (a b : Answer) → Reports list profile segments buffer a
    → Reports list profile segments buffer b → a ≡ b
unfolding Reports
reports_unique list profile segments buffer a b =
    unless_unique _ _ _
    (λ x y p q. p.2 ∙ (ap (λ (bytes : List ℕ). filled reported bytes buffer) (report_unique profile segments p.0 q.0 p.1 q.1) ∙ sym q.2)) a b
