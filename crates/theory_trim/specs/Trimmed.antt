-- 02, request 10: a trimmed proof is accepted, each of its lines but the last is used by a later one, no key stands twice, and what rule 0 cites stays.
use Prim.Native.Nat.{ℕ, zero, suc, ◌-◌, ◌<◌}
use Rattle.std.specs.Prelude.{◌≡◌, ◌⊎◌, Bool, length, take}
use Rattle.std.proofs.Math.Path.{refl, sym, ap, subst}
use Rattle.std.proofs.Common.{◌∙◌, inl, inr, length-append}
use mathlib.Core.List.Memᴰ
use mathlib.Core.List.{List, [], ◌∷◌, ◌++◌, map, Memᴰ}
use Rattle.std.proofs.Math.Option.{some}
use native.Mathlib.Omega.{arith}
use Rattle.std.proofs.Math.ListN.{get_or, get_elem?}
use Rattle.std.proofs.lemmas.List.{length-map}
use Rattle.meaning.specs.Paths.{Label}
use Rattle.meaning.specs.Keys.{Key}
use Rattle.meaning.specs.Rules.{Line, FollowsIn, FollowsBelow, EndsWith, Accepted, line_keys}
use Rattle.meaning.specs.Trimming.{earliest, pointed, with_premises, without_premise, premises, no_line, line_at, needed, place_in, trimmed_lines}
use Rattle.theory_records.specs.Places.{at_seam}
use Rattle.theory_lists.specs.Logic.{found_below, found_mem}
use Rattle.theory_derive.specs.Accept.{line_keys_length}
use Rattle.theory_lists.specs.Lists.{at_get_d}
use Rattle.theory_trim.specs.Numbered.{at_take, take_below, same_at, at_map, map_at, mem_map, map_mem, Rising, rising_order, rising_once, place_stands, place_is}
use Rattle.theory_trim.specs.Firsts.{earliest_is, pointed_is, pointed_within, pointed_stands, pointed_again}
use Rattle.theory_trim.specs.Needs.{wants, Needs, needs, WantedBy, LastStays, needs_below, needs_rising, needs_closed, needs_why, needs_last}
use Rattle.theory_trim.specs.Premises.{stays_so, rule_stays, key_stays, premises_changed, premise_stands}
use Rattle.theory_trim.specs.Moved.{follows_moved}

-- a line's key stands at its number
pub key_at : (lines : List Line) (n : ℕ) {l : Line} → get_elem? lines n ≡ some l → get_elem? (line_keys lines) n ≡ some l.key
unfolding line_keys
key_at lines n e = at_map (λ (l : Line). l.key) lines n e

pub keys_take : (n : ℕ) (lines : List Line) → line_keys (take n lines) ≡ take n (line_keys lines)
unfolding line_keys
keys_take zero lines = refl
keys_take (suc n) [] = refl
keys_take (suc n) (l ∷ lines) = ap (λ (ks : List Key). l.key ∷ ks) (keys_take n lines)

-- a line uses line i as a premise
pub record UsedLater (lines : List Line) (i : ℕ) : Type 0 where
  pub by : ℕ
  pub line : Line
  pub stands : get_elem? lines by ≡ some line
  pub later : i < by
  pub among : Memᴰ i (premises line)

module _ (single : ℕ → Bool) (labels : List Label) (keys : List Key) (question : Key) (lines : List Line)
    (a : Accepted single labels keys question lines) where
  abbrev pub end : ℕ
  end = earliest (line_keys lines) question

  abbrev pub stay : List ℕ
  stay = needed lines question

  abbrev pub move : ℕ → ℕ
  move p = place_in stay (pointed lines p)

  abbrev pub moved : ℕ → Line
  moved n = with_premises move (line_at lines n)

  abbrev pub trimmed : List Line
  trimmed = trimmed_lines lines question

  pub is_map : trimmed ≡ map moved stay
  unfolding trimmed_lines
  is_map = refl

  pub stay_needs : Needs lines (suc end) (end ∷ []) stay
  unfolding needed
  stay_needs = needs lines (suc end) (end ∷ [])

  last_key : get_elem? (line_keys lines) (length lines - 1) ≡ some question
  unfolding EndsWith
  last_key = a.last

  pub end_stands : get_elem? (line_keys lines) end ≡ some question
  end_stands = (earliest_is (line_keys lines) question (length lines - 1) last_key).stands

  end_within : end < length lines
  end_within = let h = found_below (line_keys lines) end end_stands in omega (arith, line_keys_length lines)

  pub stay_rising : Rising 0 stay
  stay_rising = needs_rising stay_needs

  pub stay_within : (n : ℕ) → Memᴰ n stay → n < length lines
  stay_within n m = let h = needs_below stay_needs n m in omega (arith, end_within)

  -- a line of the proof, by its number
  stands_at : (n : ℕ) → n < length lines → get_elem? lines n ≡ some (line_at lines n)
  unfolding line_at
  stands_at n h = at_get_d lines n no_line h

  follows_at : (n : ℕ) → n < length lines → FollowsIn single labels keys (line_keys (take n lines)) (line_at lines n)
  unfolding FollowsBelow
  follows_at n h =
      let f = a.each n h in
      subst (FollowsIn single labels keys (line_keys (take n lines))) (same_at lines n f.stands (stands_at n h)) f.follows

  -- the key of a line before line n
  before : (n x : ℕ) {k : Key} → get_elem? (line_keys (take n lines)) x ≡ some k → (x < n) × (get_elem? (line_keys lines) x ≡ some k)
  before n x {k} e =
      let f : get_elem? (take n (line_keys lines)) x ≡ some k = ap (λ (l : List Key). get_elem? l x) (sym (keys_take n lines)) ∙ e in
      let h : x < n = take_below n (line_keys lines) x f in
      (h, sym (at_take n (line_keys lines) x h) ∙ f)

  pub premise_before : (n x : ℕ) → n < length lines → Memᴰ x (premises (line_at lines n)) → (k : Key) × (x < n) × (get_elem? (line_keys lines) x ≡ some k)
  premise_before n x h m =
      let s = premise_stands (line_at lines n) (follows_at n h) x m in
      let b = before n x s.is in
      (s.key, b.0, b.1)

  -- a premise of a line that stays is pointed to one that stays, which stands before it
  pub pointed_stays : (n x : ℕ) → Memᴰ n stay → Memᴰ x (premises (line_at lines n)) → Memᴰ (pointed lines x) stay × (pointed lines x < n)
  unfolding wants
  pointed_stays n x m p =
      let b = premise_before n x (stay_within n m) p in
      let w = pointed_within lines x b.2 in
      let h : pointed lines x < n = let c = b.1 in omega arith in
      (needs_closed stay_needs n (pointed lines x) m (mem_map (pointed lines) p) h, h)

  -- every line that stays is the earliest with its key
  stay_first : (n : ℕ) → Memᴰ n stay → pointed lines n ≡ n
  unfolding wants
  stay_first n m = go (needs_why stay_needs n m)
    where
      go : Memᴰ n (end ∷ []) ⊎ WantedBy lines stay n → pointed lines n ≡ n
      go (inl e) =
          let q = Memᴰ.eq_of_singleton e in
          ap (pointed lines) q ∙ (pointed_is lines end end_stands ∙ sym q)
      go (inr b) =
          let i = map_mem (pointed lines) (premises (line_at lines b.by)) b.among in
          let s = premise_before b.by i.member (stay_within b.by b.stays) i.among in
          ap (pointed lines) i.is ∙ (pointed_again lines i.member s.2 ∙ sym i.is)

  -- line i of the trimmed proof is the moved line n
  pub record From (i : ℕ) (l : Line) : Type 0 where
    pub n : ℕ
    pub place : get_elem? stay i ≡ some n
    pub is : l ≡ moved n
    pub stands : get_elem? lines n ≡ some (line_at lines n)

  pub line_from : (i : ℕ) (l : Line) → get_elem? trimmed i ≡ some l → From i l
  line_from i l e =
      let s = map_at moved stay i (ap (λ (ls : List Line). get_elem? ls i) (sym is_map) ∙ e) in
      record {
        n = s.member;
        place = s.stands;
        is = sym s.is;
        stands = stands_at s.member (stay_within s.member (found_mem stay i s.stands));
      }

  trimmed_at : (i n : ℕ) → get_elem? stay i ≡ some n → get_elem? trimmed i ≡ some (moved n)
  trimmed_at i n e = ap (λ (ls : List Line). get_elem? ls i) is_map ∙ at_map moved stay i e

  pub trimmed_length : length trimmed ≡ length stay
  trimmed_length = ap length is_map ∙ length-map stay moved

  -- its key is the old line's
  key_of : (n : ℕ) → Memᴰ n stay → get_elem? (line_keys lines) n ≡ some (moved n).key
  key_of n m =
      subst (λ (k : Key). get_elem? (line_keys lines) n ≡ some k) (sym (key_stays move (line_at lines n)))
      (key_at lines n (stands_at n (stay_within n m)))

  trimmed_key : (i n : ℕ) → get_elem? stay i ≡ some n → get_elem? (line_keys trimmed) i ≡ some (moved n).key
  trimmed_key i n e = key_at trimmed i (trimmed_at i n e)

  -- the key that a premise names stands where the premise is moved to
  moves : (i n : ℕ) → get_elem? stay i ≡ some n → (x : ℕ) → Memᴰ x (premises (line_at lines n)) → (p : Key)
      → get_elem? (line_keys (take n lines)) x ≡ some p → get_elem? (line_keys (take i trimmed)) (move x) ≡ some p
  moves i n e x m p g =
      let s = pointed_stays n x (found_mem stay i e) m in
      let b = before n x g in
      let at : get_elem? stay (move x) ≡ some (pointed lines x) = place_stands stay (pointed lines x) s.0 in
      let h : move x < i = rising_order stay_rising (move x) i at e s.1 in
      let k : (moved (pointed lines x)).key ≡ p =
      same_at (line_keys lines) (pointed lines x) (key_of (pointed lines x) s.0) (pointed_stands lines x b.1) in
      ap (λ (l : List Key). get_elem? l (move x)) (keys_take i trimmed)
      ∙ (at_take i (line_keys trimmed) (move x) h ∙ (trimmed_key (move x) (pointed lines x) at ∙ ap some k))

  pub follows_trimmed : (i n : ℕ) → get_elem? stay i ≡ some n → FollowsIn single labels keys (line_keys (take i trimmed)) (moved n)
  follows_trimmed i n e =
      follows_moved labels keys (line_keys (take n lines)) (line_keys (take i trimmed)) move (line_at lines n) (moves i n e)
      (follows_at n (stay_within n (found_mem stay i e)))

  stay_last : LastStays stay end
  stay_last = needs_last stay_needs (Memᴰ.head refl)

  last_place : get_elem? stay (length stay - 1) ≡ some end
  last_place =
      let b : List ℕ = stay_last.before in
      let e : stay ≡ b ++ (end ∷ []) = stay_last.are in
      let n : length stay - 1 ≡ length b = let h = ap length e in omega (arith, length-append b (end ∷ [])) in
      ap (λ (i : ℕ). get_elem? stay i) n ∙ (ap (λ (l : List ℕ). get_elem? l (length b)) e ∙ at_seam b end [])

  -- "the result is accepted"
  pub trimmed_accepted : Accepted single labels keys question (trimmed_lines lines question)
  unfolding FollowsBelow EndsWith
  trimmed_accepted =
      record {
        each =
            λ i h.
            let n : ℕ = get_or stay i 0 in
            let e : get_elem? stay i ≡ some n = at_get_d stay i 0 (omega (arith, trimmed_length)) in
            record { line = moved n; stands = trimmed_at i n e; follows = follows_trimmed i n e };
        last =
            ap (λ (m : ℕ). get_elem? (line_keys trimmed) (m - 1)) trimmed_length
            ∙ (trimmed_key (length stay - 1) end last_place
            ∙ ap some (same_at (line_keys lines) end (key_of end (found_mem stay (length stay - 1) last_place)) end_stands));
      }

  -- each line but the last is a premise of a later one
  pub trimmed_used : (i : ℕ) → i < length (trimmed_lines lines question) - 1 → UsedLater (trimmed_lines lines question) i
  unfolding wants
  trimmed_used i h = go (needs_why stay_needs n (found_mem stay i e))
    where
      n : ℕ
      n = get_or stay i 0

      e : get_elem? stay i ≡ some n
      e = at_get_d stay i 0 (omega (arith, trimmed_length))

      go : Memᴰ n (end ∷ []) ⊎ WantedBy lines stay n → UsedLater (trimmed_lines lines question) i
      go (inl q) =
          let s : i ≡ length stay - 1 =
          rising_once stay_rising i (length stay - 1) (e ∙ ap some (Memᴰ.eq_of_singleton q)) last_place in
          absurd (omega (arith, trimmed_length))
      go (inr b) =
          let m : ℕ = b.by in
          let j : ℕ = place_in stay m in
          let at : get_elem? stay j ≡ some m = place_stands stay m b.stays in
          let p = map_mem (pointed lines) (premises (line_at lines m)) b.among in
          let here : move p.member ≡ i = ap (place_in stay) (sym p.is) ∙ place_is stay_rising i e in
          record {
            by = j;
            line = moved m;
            stands = trimmed_at j m at;
            later = rising_order stay_rising i j e at b.later;
            among =
                subst (Memᴰ i) (sym (premises_changed move (line_at lines m)))
                (subst (λ (x : ℕ). Memᴰ x (map move (premises (line_at lines m)))) here (mem_map move p.among));
          }

  -- two different lines have different keys
  pub trimmed_once : (i j : ℕ) (k : Key) → get_elem? (line_keys (trimmed_lines lines question)) i ≡ some k
      → get_elem? (line_keys (trimmed_lines lines question)) j ≡ some k → i ≡ j
  trimmed_once i j k e f =
      rising_once stay_rising i j (place i (inside i e)) (place j (inside j f) ∙ ap some (number j f ∙ sym (number i e)))
    where
      inside : (i : ℕ) {k : Key} → get_elem? (line_keys trimmed) i ≡ some k → i < length stay
      inside i e = let h = found_below (line_keys trimmed) i e in omega (arith, line_keys_length trimmed, trimmed_length)

      place : (i : ℕ) → i < length stay → get_elem? stay i ≡ some (get_or stay i 0)
      place i h = at_get_d stay i 0 h

      number : (i : ℕ) → get_elem? (line_keys trimmed) i ≡ some k → get_or stay i 0 ≡ earliest (line_keys lines) k
      number i e =
          let at = place i (inside i e) in
          let m = found_mem stay i at in
          let q : (moved (get_or stay i 0)).key ≡ k = same_at (line_keys trimmed) i (trimmed_key i (get_or stay i 0) at) e in
          sym (stay_first (get_or stay i 0) m)
          ∙ pointed_is lines (get_or stay i 0) (key_of (get_or stay i 0) m ∙ ap some q)

  -- "The key numbers that rule 0 cites stay": such a line is an old line, field by field
  pub record OldLine (l : Line) : Type 0 where
    pub n : ℕ
    pub stands : get_elem? lines n ≡ some l

  pub trimmed_cites : (i : ℕ) (l : Line) → get_elem? (trimmed_lines lines question) i ≡ some l → l.rule ≡ 0 → OldLine l
  unfolding without_premise
  trimmed_cites i l e z =
      let s = line_from i l e in
      let r : (line_at lines s.n).rule ≡ 0 =
      sym (rule_stays move (line_at lines s.n)) ∙ (ap (λ (x : Line). x.rule) (sym s.is) ∙ z) in
      let same : l ≡ line_at lines s.n = s.is ∙ stays_so move (line_at lines s.n) (ap without_premise r) in
      record { n = s.n; stands = s.stands ∙ ap some (sym same) }
