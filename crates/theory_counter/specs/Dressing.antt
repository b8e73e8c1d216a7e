-- Where the pattern's nodes stand once "each element is followed at once by a filler attribute".
use Prim.Native.Nat.{ℕ, zero, suc, ◌+◌, ◌-◌, ◌<◌}
use Rattle.std.specs.Prelude.{◌≡◌, Bool, List, [], ◌∷◌, ◌++◌, take}
use Rattle.std.proofs.Math.Path.{refl, ap, subst}
use Rattle.std.proofs.Common.{sym, ◌∙◌, take-suc}
use Rattle.std.proofs.Math.Bool.{true, false, cond}
use native.Mathlib.Omega.{arith}
use Rattle.std.proofs.Math.Dec.{T}
use Rattle.std.proofs.Math.ListN.{length, get_or}
use Rattle.meaning.specs.Paths.{Class, is_element}
use Rattle.meaning.specs.Trees.{Node, no_node, table_of}
use Rattle.meaning.specs.Keys.{Key}
use Rattle.meaning.specs.Pattern.{pattern_nodes, pattern, widths, place_of, filler, dressed_node, dressed, dressed_nodes, no_dressed}
use Rattle.theory_counter.specs.Doubled.{Stands}
use Rattle.theory_counter.specs.Places.{bit, Placing, steps_rise}
use Rattle.theory_counter.specs.Flattened.{Counts, flat_length, flat_at, flat_find}

widths_append : (κ : ℕ → Class) (xs ys : List Node) → widths κ (xs ++ ys) ≡ widths κ xs + widths κ ys
unfolding widths
widths_append κ [] ys = omega arith
widths_append κ (x ∷ xs) ys = let r = widths_append κ xs ys in omega arith

width : (b : Bool) → cond b 2 1 + 0 ≡ suc (bit b)
unfolding bit
width true = omega arith
width false = omega arith

module _ (κ : ℕ → Class) (asked : Key) where
  pub place_step : (x : ℕ) → x < length (pattern_nodes asked)
      → place_of κ asked (suc x) ≡ suc (place_of κ asked x + bit (is_element (κ (get_or (pattern_nodes asked) x no_node).label)))
  unfolding place_of widths
  place_step x h =
      let l = pattern_nodes asked in
      let a = ap (widths κ) (take-suc l x no_node h) ∙ widths_append κ (take x l) (get_or l x no_node ∷ []) in
      let b = width (is_element (κ (get_or l x no_node).label)) in
      omega arith

  dressed_long : (x : ℕ) → length (dressed κ asked x) ≡ suc (bit (is_element (κ (get_or (pattern_nodes asked) x no_node).label)))
  unfolding dressed dressed_node bit
  dressed_long x = go (is_element (κ (get_or (pattern_nodes asked) x no_node).label))
    where
      go : (b : Bool) → length (cond b (dressed_node κ asked x ∷ filler κ asked x ∷ []) (dressed_node κ asked x ∷ [])) ≡ suc (bit b)
      go true = refl
      go false = refl

  counts : Counts (dressed κ asked) (place_of κ asked) (length (pattern_nodes asked)) 0
  unfolding Counts
  counts x l h = let a = place_step x (omega arith) in let b = dressed_long x in omega arith

  place_start : place_of κ asked 0 ≡ 0
  unfolding place_of widths
  place_start = refl

  pub dressed_all : length (dressed_nodes κ asked) ≡ place_of κ asked (length (pattern_nodes asked))
  unfolding dressed_nodes
  dressed_all =
      let n = length (pattern_nodes asked) in
      let e : 0 + n ≡ n = omega arith in
      let q = ap (place_of κ asked) e in
      let r = flat_length (dressed κ asked) (place_of κ asked) n 0 counts in
      let s = place_start in
      omega arith

  dressed_index : (x : ℕ) (f : Bool) → (T f → T (is_element (κ (get_or (pattern_nodes asked) x no_node).label))) → bit f < length (dressed κ asked x)
  unfolding bit
  dressed_index x f o = go f (is_element (κ (get_or (pattern_nodes asked) x no_node).label)) o (dressed_long x)
    where
      go : (f b : Bool) → (T f → T b) → length (dressed κ asked x) ≡ suc (bit b) → bit f < length (dressed κ asked x)
      go false b o l = omega arith
      go true true o l = omega arith
      go true false o l = absurd (o tt)

  dressed_get : (x : ℕ) (f : Bool) → (T f → T (is_element (κ (get_or (pattern_nodes asked) x no_node).label)))
      → get_or (dressed κ asked x) (bit f) (no_dressed κ asked) ≡ cond f (filler κ asked x) (dressed_node κ asked x)
  unfolding dressed dressed_node bit
  dressed_get x f o = go f (is_element (κ (get_or (pattern_nodes asked) x no_node).label)) o
    where
      go : (f b : Bool) → (T f → T b)
          → get_or (cond b (dressed_node κ asked x ∷ filler κ asked x ∷ []) (dressed_node κ asked x ∷ [])) (bit f) (no_dressed κ asked)
          ≡ cond f (filler κ asked x) (dressed_node κ asked x)
      go false true o = refl
      go false false o = refl
      go true true o = refl
      go true false o = absurd (o tt)

  -- what stands at a place
  pub dressed_at : (x : ℕ) (f : Bool) → Stands κ (pattern asked) x f
      → get_or (dressed_nodes κ asked) (place_of κ asked x + bit f) (no_dressed κ asked) ≡ cond f (filler κ asked x) (dressed_node κ asked x)
  unfolding dressed_nodes pattern table_of
  dressed_at x f st =
      let i = st.inside in
      let s = place_start in
      flat_at (dressed κ asked) (place_of κ asked) (length (pattern_nodes asked)) 0 x (bit f) (place_of κ asked x + bit f) (no_dressed κ asked) counts
      (omega arith) (omega arith) (dressed_index x f st.owner) (omega arith)
      ∙ dressed_get x f st.owner

-- number m of the dressed list: which pattern node's, and whether it is its filler
pub record DressedSpot (κ : ℕ → Class) (asked : Key) (m : ℕ) : Type 0 where
  pub node : ℕ
  pub filler : Bool
  pub stands : Stands κ (pattern asked) node filler
  pub here : m ≡ place_of κ asked node + bit filler

module _ (κ : ℕ → Class) (asked : Key) where
  pub dressed_find : (m : ℕ) → m < length (dressed_nodes κ asked) → DressedSpot κ asked m
  unfolding dressed_nodes pattern table_of bit
  dressed_find m h =
      let f = flat_find (dressed κ asked) (place_of κ asked) (length (pattern_nodes asked)) 0 m (counts κ asked) h in
      let s = place_start κ asked in
      let e = f.here in
      let b = f.not_behind in
      go f.node f.index (omega arith) (is_element (κ (get_or (pattern_nodes asked) f.node no_node).label)) refl
      (let l = dressed_long κ asked f.node in let k = f.inside in omega arith) (omega arith)
    where
      go : (x j : ℕ) → x < length (pattern_nodes asked) → (b : Bool) → is_element (κ (get_or (pattern_nodes asked) x no_node).label) ≡ b
          → j < suc (bit (is_element (κ (get_or (pattern_nodes asked) x no_node).label))) → m ≡ place_of κ asked x + j → DressedSpot κ asked m
      go x zero h b e k q = record { node = x; filler = false; stands = record { inside = h; owner = λ t. absurd t }; here = q }
      go x (suc j) h false e k q = let r = ap bit e in absurd (omega arith)
      go x (suc j) h true e k q =
          let r = ap bit e in
          record {
            node = x;
            filler = true;
            stands = record { inside = h; owner = λ t. subst (λ (c : Bool). T c) (sym e) tt };
            here = omega arith;
          }

  pub dressed_placing : (u : ℕ) → u < length (pattern_nodes asked)
      → Placing κ (pattern asked) u (place_of κ asked) (place_of κ asked (suc u)) (length (dressed_nodes κ asked) - place_of κ asked (suc u))
  unfolding pattern table_of
  dressed_placing u h =
      record {
        start = place_start κ asked;
        steps = place_step κ asked;
        trunk = h;
        cut_at = refl;
        all =
            let n = length (pattern_nodes asked) in
            let r =
            steps_rise n (place_of κ asked) (λ (k : ℕ) (i : k < n). let e = place_step κ asked k i in omega arith) (suc u) n h (omega arith) in
            let e = dressed_all κ asked in
            omega arith;
      }
