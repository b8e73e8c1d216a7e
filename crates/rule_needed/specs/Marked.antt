-- The marks: what a line's premises point to, and a turn of the loop from the end down.
use Rattle.std.specs.Prelude.{ℕ, suc, ◌+◌, ◌-◌, ◌≤◌, ◌<◌, ◌≡◌, Bool, true, false, cond, ◌||◌, eqb, length, drop, replicate}
use Rattle.std.proofs.Math.Path.{refl, sym, ap, ap₂, subst}
use Rattle.std.proofs.Common.{◌∙◌, arith, add-one, length-set, get_or-set_same, get_or-set_other}
use mathlib.Core.List.{List, [], ◌∷◌, map, Memᴰ}
use borrow.Author.Tests.{ne_eqb, eqb-true, eqb-false}
use Rattle.std.proofs.Math.ListN.{get_or, set}
use Rattle.std.proofs.lemmas.List.{length-replicate, get_or-replicate}
use Rattle.meaning.specs.Lists.{any}
use Rattle.meaning.specs.Rules.{Line}
use Rattle.meaning.specs.Records.{word, record_body, read_line}
use Rattle.meaning.specs.Trimming.{pointed, without_premise, premises, line_at}
use Rattle.theory_records.specs.Heads.{body_length}
use Rattle.rule_premises.specs.Premises.{lines_from}
use Rattle.theory_trim.specs.Numbered.{map_mem}
use Rattle.theory_trim.specs.Needs.{wants}
use Rattle.theory_trim.specs.Premises.{premises_none, premises_one, premises_two}
use Rattle.theory_trim.specs.Marks.{Marking, marking_start, marking_goes, marking_stays}
use Rattle.rule_stands.specs.Standing.{Standing, line_here, line_read}
use Rattle.rule_stands.specs.Pointing.{Pointing}

-- how many premises a rule has
unfoldable pub premise_count : ℕ → ℕ
premise_count rule = cond (without_premise rule) 0 (cond (eqb rule 9) 2 1)

module _ (rule : ℕ) where
  pub count_cited : rule ≡ 0 → 0 ≡ premise_count rule
  unfolding premise_count without_premise
  count_cited e = rw e

  pub count_epsilon : rule ≡ 1 → 0 ≡ premise_count rule
  unfolding premise_count without_premise
  count_epsilon e = rw e

  pub count_attribute : rule ≡ 10 → 0 ≡ premise_count rule
  unfolding premise_count without_premise
  count_attribute e = rw e

  pub count_interaction : rule ≡ 9 → 2 ≡ premise_count rule
  unfolding premise_count without_premise
  count_interaction e = rw e

  pub count_other : (rule ≡ 0 → ⊥) → (rule ≡ 1 → ⊥) → (rule ≡ 10 → ⊥) → (rule ≡ 9 → ⊥) → 1 ≡ premise_count rule
  unfolding premise_count without_premise
  count_other a b c d = rw (ne_eqb rule 0 a, ne_eqb rule 1 b, ne_eqb rule 10 c, ne_eqb rule 9 d)

pub ruleset counts = (count_cited, count_epsilon, count_attribute, count_interaction, count_other)

-- a line by the number of its premises
pub data Uses (l : Line) : ℕ → Type 0 where
  none : without_premise l.rule ≡ true → Uses l 0
  one : without_premise l.rule ≡ false → eqb l.rule 9 ≡ false → Uses l 1
  two : without_premise l.rule ≡ false → eqb l.rule 9 ≡ true → Uses l 2

pub uses : (l : Line) {used : ℕ} → used ≡ premise_count l.rule → Uses l used
unfolding premise_count
uses l e = subst (Uses l) (sym e) (go (without_premise l.rule) refl (eqb l.rule 9) refl)
  where
    go : (b : Bool) → without_premise l.rule ≡ b → (c : Bool) → eqb l.rule 9 ≡ c → Uses l (cond b 0 (cond c 2 1))
    go true p c q = none p
    go false p true q = two p q
    go false p false q = one p q

module _ {l : Line} where
  pub uses_none : {used : ℕ} → Uses l used → used ≡ 0 → premises l ≡ []
  uses_none (none p) e = premises_none (λ x. x) l p
  uses_none (one p q) e = absurd (omega arith)
  uses_none (two p q) e = absurd (omega arith)

  pub uses_one : {used : ℕ} → Uses l used → used ≡ 1 → premises l ≡ l.first ∷ []
  uses_one (none p) e = absurd (omega arith)
  uses_one (one p q) e = premises_one (λ x. x) l p q
  uses_one (two p q) e = absurd (omega arith)

  pub uses_two : {used : ℕ} → Uses l used → (used ≡ 0 → ⊥) → (used ≡ 1 → ⊥) → premises l ≡ l.first ∷ l.second ∷ []
  uses_two (none p) a b = absurd (a refl)
  uses_two (one p q) a b = absurd (b refl)
  uses_two (two p q) a b = premises_two (λ x. x) l p q

  pub first_used : {used : ℕ} → Uses l used → (used ≡ 0 → ⊥) → Memᴰ l.first (premises l)
  first_used (none p) a = absurd (a refl)
  first_used (one p q) a = subst (Memᴰ l.first) (sym (premises_one (λ x. x) l p q)) (Memᴰ.head refl)
  first_used (two p q) a = subst (Memᴰ l.first) (sym (premises_two (λ x. x) l p q)) (Memᴰ.head refl)

  pub second_used : {used : ℕ} → Uses l used → (used ≡ 0 → ⊥) → (used ≡ 1 → ⊥) → Memᴰ l.second (premises l)
  second_used u a b = subst (Memᴰ l.second) (sym (uses_two u a b)) (Memᴰ.tail (Memᴰ.head refl))

-- the lines that a line's premises point to
unfoldable pub points_to : List ℕ → Line → List ℕ
points_to firsts l = map (λ (p : ℕ). get_or firsts p 0) (premises l)

-- the marks, with these numbers marked
unfoldable pub marked : List ℕ → List Bool → List Bool
marked [] marks = marks
marked (x ∷ xs) marks = marked xs (set marks x true)

-- What is known of a line's body: it has its fields, and its premises are numbers of lines
pub record Known (firsts body : List ℕ) : Type 0 where
  pub long : 5 ≤ length body
  pub small : (x : ℕ) → Memᴰ x (premises (read_line body)) → (x < 256) × (get_or firsts x 0 < 256)

module _ {firsts body : List ℕ} (k : Known firsts body) {rule used : ℕ} (is_rule : rule ≡ get_or body 0 0) (is_used : used ≡ premise_count rule) where
  pub body_uses : Uses (read_line body) used
  unfolding read_line
  body_uses = uses (read_line body) (is_used ∙ ap premise_count is_rule)

  pub first_known : (used ≡ 0 → ⊥) → {first : ℕ} → first ≡ word body 1 → (first < 256) × (get_or firsts first 0 < 256)
  unfolding read_line
  first_known a e = subst (λ (x : ℕ). (x < 256) × (get_or firsts x 0 < 256)) (sym e) (k.small (word body 1) (first_used body_uses a))

  pub second_known : (used ≡ 0 → ⊥) → (used ≡ 1 → ⊥) → {second : ℕ} → second ≡ word body 3 → (second < 256) × (get_or firsts second 0 < 256)
  unfolding read_line
  second_known a b e = subst (λ (x : ℕ). (x < 256) × (get_or firsts x 0 < 256)) (sym e) (k.small (word body 3) (second_used body_uses a b))

  pub marks_none : used ≡ 0 → (marks : List Bool) → marks ≡ marked (points_to firsts (read_line body)) marks
  unfolding marked points_to
  marks_none e marks = rw (uses_none body_uses e)

  pub marks_one : used ≡ 1 → {first : ℕ} → first ≡ word body 1 → (marks : List Bool) → {r : List Bool} → r ≡ set marks (get_or firsts first 0) true
      → r ≡ marked (points_to firsts (read_line body)) marks
  unfolding marked points_to read_line
  marks_one e f marks q = q ∙ ap (λ (x : ℕ). set marks (get_or firsts x 0) true) f ∙ sym (ap (λ (l : List ℕ). marked (map (λ (p : ℕ). get_or firsts p 0) l) marks) (uses_one body_uses e))

  pub marks_two : (used ≡ 0 → ⊥) → (used ≡ 1 → ⊥) → {first second : ℕ} → first ≡ word body 1 → second ≡ word body 3 → (marks : List Bool)
      → {mid r : List Bool} → mid ≡ set marks (get_or firsts first 0) true → r ≡ set mid (get_or firsts second 0) true
      → r ≡ marked (points_to firsts (read_line body)) marks
  unfolding marked points_to read_line
  marks_two a b f g marks p q =
      q ∙ ap₂ (λ (m : List Bool) (x : ℕ). set m (get_or firsts x 0) true) (p ∙ ap (λ (x : ℕ). set marks (get_or firsts x 0) true) f) g
      ∙ sym (ap (λ (l : List ℕ). marked (map (λ (y : ℕ). get_or firsts y 0) l) marks) (uses_two body_uses a b))

-- a line that is marked marks what it points to
unfoldable pub marked_if : Bool → List ℕ → List Bool → List Bool
marked_if b xs marks = cond b (marked xs marks) marks

module _ (b : Bool) (xs : List ℕ) (marks : List Bool) where
  pub mark_not : b ≡ false → marks ≡ marked_if b xs marks
  unfolding marked_if
  mark_not e = rw e

  pub mark_it : b ≡ true → {r : List Bool} → r ≡ marked xs marks → r ≡ marked_if b xs marks
  unfolding marked_if
  mark_it e q = rw e q

-- ---- a turn

marked_length : (xs : List ℕ) (marks : List Bool) → length (marked xs marks) ≡ length marks
unfolding marked
marked_length [] marks = refl
marked_length (x ∷ xs) marks = marked_length xs (set marks x true) ∙ length-set marks x true

marked_at : (xs : List ℕ) (marks : List Bool) (m : ℕ) → ((x : ℕ) → Memᴰ x xs → x < length marks)
    → get_or (marked xs marks) m false ≡ any (eqb m) xs || get_or marks m false
unfolding marked any
marked_at [] marks m h = refl
marked_at (x ∷ xs) marks m h =
    marked_at xs (set marks x true) m (λ y q. let l = h y (Memᴰ.tail q) in omega (arith, length-set marks x true)) ∙ go (eqb m x) refl
  where
    last : (b : Bool) → b || true ≡ true
    last true = refl
    last false = refl

    go : (b : Bool) → eqb m x ≡ b → any (eqb m) xs || get_or (set marks x true) m false ≡ (b || any (eqb m) xs) || get_or marks m false
    go true e =
        ap (λ (b : Bool). any (eqb m) xs || b)
        (ap (λ (y : ℕ). get_or (set marks x true) y false) (eqb-true m x e) ∙ get_or-set_same marks x true false (h x (Memᴰ.head refl)))
        ∙ last (any (eqb m) xs)
    go false e = ap (λ (b : Bool). any (eqb m) xs || b) (get_or-set_other marks x m true false (eqb-false m x e))

none_equal : (x : ℕ) (l : List ℕ) → ((y : ℕ) → Memᴰ y l → x ≡ y → ⊥) → any (eqb x) l ≡ false
unfolding any
none_equal x [] f = refl
none_equal x (y ∷ l) f =
    ap (λ (b : Bool). b || any (eqb x) l) (ne_eqb x y (f y (Memᴰ.head refl))) ∙ none_equal x l (λ z w. f z (Memᴰ.tail w))

-- What the marking is given: lines whose premises stand before them, and the earliest line with the key of each
pub record Linked (count : ℕ) (proof at firsts : List ℕ) : Type 0 where
  pub some : 0 < count
  pub standing : Standing count proof at
  pub pointing : Pointing count count proof firsts
  pub before : (n x : ℕ) → n < count → Memᴰ x (premises (line_at (lines_from count proof) n)) → x < n

-- The loop: lines n and above are looked at
pub record Turned (lines : List Line) (end n : ℕ) (marks : List Bool) : Type 0 where
  pub marking : Marking lines end n marks
  pub size : length marks ≡ 256

module _ {count : ℕ} {proof at firsts : List ℕ} (k : Linked count proof at firsts) where
  pub end_low : get_or firsts (count - 1) 0 < count
  end_low = let s = k.some in let w = k.pointing.within (count - 1) (omega arith) in omega arith

  pub few_lines : count ≤ 256
  few_lines = k.standing.few

  pub known_line : (n : ℕ) → n < count → {body : List ℕ} → body ≡ record_body (drop (get_or at n 0) proof) → Known firsts body
  known_line n h {body} e =
      let r = (line_here k.standing n h).line in
      let q : line_at (lines_from count proof) n ≡ read_line body = line_read k.standing n h ∙ ap read_line (sym e) in
      record {
        long = let a = r.long in omega (arith, ap length e, body_length (drop (get_or at n 0) proof) r.within);
        small =
            λ x m.
            let b = k.before n x h (subst (λ (l : Line). Memᴰ x (premises l)) (sym q) m) in
            let w = k.pointing.within x (omega arith) in
            let f = few_lines in
            (omega arith, omega arith);
      }

  -- what line n points to
  wants_are : (n : ℕ) → n < count → {body : List ℕ} → body ≡ record_body (drop (get_or at n 0) proof)
      → points_to firsts (read_line body) ≡ wants (lines_from count proof) n
  unfolding wants points_to
  wants_are n h {body} e =
      ap (λ (l : Line). map (λ (p : ℕ). get_or firsts p 0) (premises l)) (sym (line_read k.standing n h ∙ ap read_line (sym e)))
      ∙ map_same (premises (line_at (lines_from count proof) n)) (λ p m. k.pointing.is p (let b = k.before n p h m in omega arith))
    where
      map_same : (ps : List ℕ) → ((p : ℕ) → Memᴰ p ps → get_or firsts p 0 ≡ pointed (lines_from count proof) p)
          → map (λ (p : ℕ). get_or firsts p 0) ps ≡ map (pointed (lines_from count proof)) ps
      map_same [] f = refl
      map_same (p ∷ ps) f = ap₂ {C = List ℕ} (λ (a : ℕ) (l : List ℕ). a ∷ l) (f p (Memᴰ.head refl)) (map_same ps (λ x m. f x (Memᴰ.tail m)))

  wants_low : (n : ℕ) → n < count → (x : ℕ) → Memᴰ x (wants (lines_from count proof) n) → x < n
  unfolding wants
  wants_low n h x m =
      let i = map_mem (pointed (lines_from count proof)) (premises (line_at (lines_from count proof) n)) m in
      let b = k.before n i.member h i.among in
      let w = k.pointing.within i.member (omega arith) in
      let e = k.pointing.is i.member (omega arith) in
      omega (arith, i.is)

  pub turn_start : {end : ℕ} → end ≡ get_or firsts (count - 1) 0 → Turned (lines_from count proof) end (end + 1) (set (replicate 256 false) end true)
  turn_start {end} e =
      let l = end_low in
      let f = few_lines in
      let s : length (set (replicate 256 false) end true) ≡ 256 = length-set (replicate 256 false) end true ∙ length-replicate 256 false in
      rw add-one
      (record {
        marking = marking_start (lines_from count proof) end (set (replicate 256 false) end true) (λ m h. go m (eqb m end) refl (let z : m < 256 = omega arith in z));
        size = s;
      })
    where
      go : (m : ℕ) (b : Bool) → eqb m end ≡ b → m < 256 → get_or (set (replicate 256 false) end true) m false ≡ b
      go m true q h =
          let z = eqb-true m end q in
          ap (λ (y : ℕ). get_or (set (replicate 256 false) end true) y false) z
          ∙ get_or-set_same (replicate 256 false) end true false (let y = length-replicate 256 false in omega arith)
      go m false q h = get_or-set_other (replicate 256 false) end m true false (eqb-false m end q) ∙ get_or-replicate 256 m false false h

  -- a line below the one that was looked at stands in the proof
  pub turn_low : {end m : ℕ} {marks : List Bool} → end ≡ get_or firsts (count - 1) 0 → Turned (lines_from count proof) end m marks → 0 < m → m - 1 < count
  turn_low e t h = let w = t.marking.within in let l = end_low in omega arith

  pub turn_next : {end m : ℕ} {marks : List Bool} → end ≡ get_or firsts (count - 1) 0 → Turned (lines_from count proof) end m marks → 0 < m → {body : List ℕ}
      → body ≡ record_body (drop (get_or at (m - 1) 0) proof) → {r : List Bool}
      → r ≡ marked_if (get_or marks (m - 1) false) (points_to firsts (read_line body)) marks → Turned (lines_from count proof) end (m - 1) r
  unfolding marked_if
  turn_next {end} {m} {marks} e t h {body} q {r} p =
      subst (Turned (lines_from count proof) end (m - 1)) (sym p) (go (get_or marks (m - 1) false) refl)
    where
      low : m - 1 < count
      low = turn_low e t h

      here : Marking (lines_from count proof) end (suc (m - 1)) marks
      here = let z : m ≡ suc (m - 1) = omega arith in subst (λ (i : ℕ). Marking (lines_from count proof) end i marks) z t.marking

      is : points_to firsts (read_line body) ≡ wants (lines_from count proof) (m - 1)
      is = wants_are (m - 1) low q

      at_all : (x : ℕ) → get_or (marked (points_to firsts (read_line body)) marks) x false ≡ any (eqb x) (wants (lines_from count proof) (m - 1)) || get_or marks x false
      at_all x =
          ap (λ (l : List ℕ). get_or (marked l marks) x false) is
          ∙ marked_at (wants (lines_from count proof) (m - 1)) marks x
          (λ y w. let z = wants_low (m - 1) low y w in let s = t.size in let f = few_lines in let l = low in omega arith)

      none : (x : ℕ) → m - 1 ≤ x → any (eqb x) (wants (lines_from count proof) (m - 1)) ≡ false
      none x g = none_equal x (wants (lines_from count proof) (m - 1)) (λ y w. let z = wants_low (m - 1) low y w in λ e. omega arith)

      go : (b : Bool) → get_or marks (m - 1) false ≡ b → Turned (lines_from count proof) end (m - 1) (marked_if b (points_to firsts (read_line body)) marks)
      go false z = record { marking = marking_goes (lines_from count proof) end (m - 1) marks here z; size = t.size }
      go true z =
          record {
            marking =
                marking_stays (lines_from count proof) end (m - 1) marks here z (marked (points_to firsts (read_line body)) marks)
                (λ x l. at_all x)
                (λ x l. at_all x ∙ ap (λ (b : Bool). b || get_or marks x false) (none x l));
            size = marked_length (points_to firsts (read_line body)) marks ∙ t.size;
          }

  pub turn_end : {end m : ℕ} {marks : List Bool} → end ≡ get_or firsts (count - 1) 0 → Turned (lines_from count proof) end m marks → m ≤ 0
      → Marking (lines_from count proof) (get_or firsts (count - 1) 0) 0 marks
  turn_end {end} {m} {marks} e t h =
      let z : m ≡ 0 = omega arith in
      subst (λ (i : ℕ). Marking (lines_from count proof) i 0 marks) e
      (subst (λ (i : ℕ). Marking (lines_from count proof) end i marks) z t.marking)
