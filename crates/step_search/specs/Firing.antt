-- What the searches answer: a step that fires, or that nothing in the range searched does. The inner loops: nodes, then spots of a branch.
use Rattle.std.specs.Prelude.{ℕ, ◌+◌, ◌-◌, ◌≤◌, ◌<◌, ◌≡◌, refl, Bool, true, false, ◌&&◌, length, take, drop}
use Rattle.std.proofs.Common.{sym, ◌∙◌, arith, below_more}
use Rattle.std.proofs.Math.Path.{ap}
use mathlib.Core.List.{List}
use Rattle.std.proofs.Math.Dec.{T, lt→ltb, le→leb}
use Rattle.meaning.specs.Lists.{every}
use Rattle.meaning.specs.Paths.{member}
use Rattle.meaning.specs.Keys.{Key}
use Rattle.meaning.specs.Records.{read_key, key_in, is_some}
use Rattle.meaning.specs.Pattern.{t_of}
use Rattle.theory_lists.specs.Bools.{of_true, false_of, of_false, and_left, and_right, both}
use Rattle.theory_pattern.specs.Spots.{row_of, part, lands, fires_by}
use Rattle.theory_pattern.specs.Rows.{row_length}
use Rattle.step_rows.specs.Drawn.{Drawn, HasRow, row_in, drawn_has, drawn_is}
use Rattle.step_landings.specs.Landing.{OnSpot, part_is}
use Rattle.step_search.specs.declared.firing.Taken.{Taken}

-- the target and the context of a step on a row, its landing apart
unfoldable pub fires_in : Key → List ℕ → ℕ → ℕ → Bool
fires_in s row i k = member s.target (part i k row) && member s.context (take i row)

module _ (asked s : Key) (i j k : ℕ) where
  pub fires_parts : T (fires_by asked s i j k) → T (every (lands asked j k) s.paths) × T (fires_in s (row_of asked j) i k)
  unfolding fires_by fires_in
  fires_parts t =
      let a : T (member s.target (part i k (row_of asked j))) = search (and_left, and_right) depth 8 in
      let b : T (member s.context (take i (row_of asked j))) = search (and_left, and_right) depth 8 in
      (search (and_left, and_right) depth 8, both (member s.target (part i k (row_of asked j))) _ a b)

  pub parts_fire : j < length asked.paths → i ≤ t_of asked → i ≤ k → k ≤ length (row_of asked j) → T (every (lands asked j k) s.paths)
      → T (fires_in s (row_of asked j) i k) → T (fires_by asked s i j k)
  unfolding fires_by fires_in
  parts_fire l h b d e f =
      let x1 = lt→ltb j (length asked.paths) l in
      let x2 = le→leb i (t_of asked) h in
      let x3 = le→leb i k b in
      let x4 = le→leb k (length (row_of asked j)) d in
      let x5 = and_left (member s.target (part i k (row_of asked j))) _ f in
      let x6 = and_right (member s.target (part i k (row_of asked j))) _ f in
      search both depth 8

-- one node and one spot
pub record OnPart (rows : List ℕ) (i j k : ℕ) : Type 0 where
  pub has : HasRow rows j
  pub above : i ≤ k
  pub within : k ≤ length (row_in rows j)

module _ {rows : List ℕ} {i j k : ℕ} (o : OnPart rows i j k) {row : List ℕ} (e : row ≡ row_in rows j) where
  pub part_within : k ≤ length row
  part_within = omega (arith, o.within, ap length e)

  module _ (s : Key) {t : List ℕ} (q : t ≡ s.target) {r : Bool} (m : r ≡ member t (take (k - i) (drop i row))) where
    target_is : member s.target (part i k (row_in rows j)) ≡ r
    target_is =
        sym (m ∙ ap (λ (p : List ℕ). member p (take (k - i) (drop i row))) q
        ∙ ap (member s.target) (part_is i k row o.above part_within ∙ ap (part i k) e))

    pub target_not : r ≡ false → r ≡ fires_in s (row_in rows j) i k
    unfolding fires_in
    target_not n = n ∙ rw (target_is ∙ n)

    pub context_last : r ≡ true → {c : List ℕ} → c ≡ s.context → {x : Bool} → x ≡ member c (take i row)
        → x ≡ fires_in s (row_in rows j) i k
    unfolding fires_in
    context_last n d w =
        rw (target_is ∙ n)
        (w ∙ ap (λ (p : List ℕ). member p (take i row)) d ∙ ap (λ (l : List ℕ). member s.context (take i l)) e)

-- a step of one key that was found: below u, to u or above
pub record Hit (asked s : Key) (number u : ℕ) (t : Taken) : Type 0 where
  pub key : t.key ≡ number
  pub node : t.node ≤ u
  pub below : u < t.spot
  pub firing : T (fires_by asked s t.node t.branch t.spot)

-- one spot
pub record AtSpot (body rows : List ℕ) (j k u : ℕ) : Type 0 where
  pub spot : OnSpot body rows j k
  pub above : u < t_of (key_in body)
  pub below : u < k

pub record NoneAt (asked s : Key) (u j k : ℕ) : Type 0 where
  pub none : (i : ℕ) → i ≤ u → fires_by asked s i j k ≡ false

-- the nodes before i are passed
pub record Climbing (asked s : Key) (u j k i : ℕ) : Type 0 where
  pub landing : T (every (lands asked j k) s.paths)
  pub within : i ≤ u + 1
  pub none : (x : ℕ) → x < i → fires_by asked s x j k ≡ false

module _ {body rows : List ℕ} {j k u : ℕ} (o : AtSpot body rows j k u) where
  -- t is at most 16
  pub spot_small : t_of (key_in body) ≤ 24
  spot_small = omega (arith, (o.spot.drawn.drawn j o.spot.branch).short, row_length (key_in body) j)

  module _ (s : Key) {r : Bool} (e : r ≡ every (lands (key_in body) j k) s.paths) where
    pub lands_none : r ≡ false → NoneAt (key_in body) s u j k
    lands_none n = record { none = λ i h. false_of _ (λ f. of_false _ (sym e ∙ n) (fires_parts (key_in body) s i j k f).0) }

    pub climbing_start : r ≡ true → Climbing (key_in body) s u j k 0
    climbing_start n =
        record { landing = of_true _ (sym e ∙ n); within = omega arith; none = λ x a. absurd (omega arith) }

  is : row_in rows j ≡ row_of (key_in body) j
  is = drawn_is o.spot.drawn o.spot.branch refl

  module _ {s : Key} {i : ℕ} (c : Climbing (key_in body) s u j k i) where
    module _ (h : i ≤ u) where
      pub climbing_part : OnPart rows i j k
      climbing_part =
          record {
            has = drawn_has o.spot.drawn o.spot.branch;
            above = omega (arith, o.below);
            within = omega (arith, o.spot.within, ap length is);
          }

      module _ {r : Bool} (e : r ≡ fires_in s (row_in rows j) i k) where
        tested : fires_in s (row_of (key_in body) j) i k ≡ r
        tested = sym (e ∙ ap (λ (l : List ℕ). fires_in s l i k) is)

        pub climbing_hit : r ≡ true → {number : ℕ}
            → Hit (key_in body) s number u (record { key = number; node = i; branch = j; spot = k })
        climbing_hit q =
            record {
              key = refl;
              node = h;
              below = o.below;
              firing =
                  parts_fire (key_in body) s i j k o.spot.branch (omega (arith, o.above)) (omega (arith, o.below))
                  o.spot.within c.landing (of_true _ (tested ∙ q));
            }

        pub climbing_next : r ≡ false → Climbing (key_in body) s u j k (i + 1)
        climbing_next q =
            record {
              landing = c.landing;
              within = omega arith;
              none =
                  below_more _ i c.none
                  (false_of _ (λ f. of_false _ (tested ∙ q) (fires_parts (key_in body) s i j k f).1));
            }

    pub climbing_done : u < i → NoneAt (key_in body) s u j k
    climbing_done h = record { none = λ x a. c.none x (omega arith) }

-- a branch, from one spot on
pub record OnBranch (body rows : List ℕ) (j from u : ℕ) : Type 0 where
  pub is_asked : is_some (read_key body) ≡ true
  pub drawn : Drawn (key_in body) rows
  pub branch : j < length (key_in body).paths
  pub above : u < t_of (key_in body)
  pub after : u < from

pub record NoneOn (asked s : Key) (u j from : ℕ) : Type 0 where
  pub none : (k : ℕ) → from ≤ k → k ≤ length (row_of asked j) → NoneAt asked s u j k

-- the spots before k are passed
pub record Trying (asked s : Key) (u j from end k : ℕ) : Type 0 where
  pub size : end ≡ length (row_of asked j)
  pub short : end ≤ 24
  pub begun : from ≤ k
  pub none : (x : ℕ) → from ≤ x → x < k → NoneAt asked s u j x

module _ {body rows : List ℕ} {j from u : ℕ} (o : OnBranch body rows j from u) where
  pub branch_has : HasRow rows j
  branch_has = drawn_has o.drawn o.branch

  pub trying_start : {s : Key} {row : List ℕ} → row ≡ row_in rows j → Trying (key_in body) s u j from (length row) from
  trying_start {s} {row} e =
      let is = drawn_is o.drawn o.branch e in
      record {
        size = ap length is;
        short = omega (arith, ap length is, (o.drawn.drawn j o.branch).short);
        begun = omega arith;
        none = λ x a b. absurd (omega arith);
      }

  module _ {s : Key} {end k : ℕ} (t : Trying (key_in body) s u j from end k) where
    module _ (h : k ≤ end) where
      pub trying_spot : AtSpot body rows j k u
      trying_spot =
          record {
            spot = record { is_key = o.is_asked; drawn = o.drawn; branch = o.branch; within = omega (arith, t.size) };
            above = o.above;
            below = omega (arith, t.begun, o.after);
          }

      pub trying_next : NoneAt (key_in body) s u j k → Trying (key_in body) s u j from end (k + 1)
      trying_next m =
          record {
            size = t.size;
            short = t.short;
            begun = omega (arith, t.begun);
            none = λ x a b. below_more (λ (y : ℕ). from ≤ y → NoneAt (key_in body) s u j y) k (λ y c d. t.none y d c) (λ d. m) x b a;
          }

    pub trying_done : end < k → NoneOn (key_in body) s u j from
    trying_done h = record { none = λ x a b. t.none x a (omega (arith, t.size)) }
