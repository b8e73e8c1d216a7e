-- The lines that stay, as bytes: each with its premises renumbered, one after the other.
use Prim.Native.Nat.{ℕ, zero, suc, ◌+◌, ◌-◌, ◌≤◌, ◌<◌}
use Rattle.std.specs.Prelude.{◌≡◌, ◌⊎◌, Bool, false, take, drop}
use Rattle.std.proofs.Math.Path.{refl, ap}
use Rattle.std.proofs.Common.{sym, subst, ◌∙◌, inl, inr, eq-or-lt_of_le, le_of_suc-le-suc, add-one, length-append}
use Rattle.std.proofs.Math.Bool.{true, cond}
use mathlib.Core.List.{List, [], ◌∷◌, ◌++◌, map, flatten, append-nil}
use native.Mathlib.Omega.{arith}
use Rattle.std.proofs.Math.ListN.{length, get_or, length-drop}
use borrow.Author.Rules.{part_to_end}
use Rattle.meaning.specs.Lists
use Rattle.meaning.specs.Lists.{keep}
use Rattle.meaning.specs.Keys.{Key}
use Rattle.meaning.specs.Rules.{Line}
use Rattle.meaning.specs.Records.{word, word_bytes, record_length, record_body, record_bytes, read_key, is_some, read_line, key_in, key_body, line_bytes}
use Rattle.meaning.specs.Trimming.{with_premises}
use Rattle.theory_records.specs.Heads.{body_length}
use Rattle.theory_records.specs.KeyBodies.{key_in_written}
use Rattle.theory_records.specs.Profiles.{flat_more}
use Rattle.theory_trim.specs.Premises.{stays_so, changes_one, changes_two, key_stays}
use Rattle.theory_trim.specs.TrimmedBytes.{line_size}
use Rattle.write_bytes.specs.Wrote.{Wrote, wrote_none, wrote_more, wrote_is}
use Rattle.write_line.specs.LineParts.{line_head, Sized}
use Rattle.rule_stands.specs.Standing.{LineThere}
use Rattle.rule_needed.specs.Marked.{premise_count, Uses, none, one, two, Known, body_uses}
use Rattle.theory_lists.specs.Lists.{keep_more}

-- the new number of a premise
unfoldable pub moves : List ℕ → List ℕ → ℕ → ℕ
moves firsts numbers p = get_or numbers (get_or firsts p 0) 0

-- these are the premise fields of the line when its premises are moved
pub record Renumbered (f : ℕ → ℕ) (l : Line) (first second : ℕ) : Type 0 where
  pub is : with_premises f l ≡ record { rule = l.rule; first = first; second = second; key = l.key }

module _ (f : ℕ → ℕ) {l : Line} where
  fields_none : {used : ℕ} → Uses l used → used ≡ 0 → Renumbered f l l.first l.second
  fields_none (none p) e = record { is = stays_so f l p }
  fields_none (one p q) e = absurd (omega arith)
  fields_none (two p q) e = absurd (omega arith)

  fields_one : {used : ℕ} → Uses l used → used ≡ 1 → Renumbered f l (f l.first) l.second
  fields_one (none p) e = absurd (omega arith)
  fields_one (one p q) e = record { is = changes_one f l p q }
  fields_one (two p q) e = absurd (omega arith)

  fields_two : {used : ℕ} → Uses l used → (used ≡ 0 → ⊥) → (used ≡ 1 → ⊥) → Renumbered f l (f l.first) (f l.second)
  fields_two (none p) a b = absurd (a refl)
  fields_two (one p q) a b = absurd (b refl)
  fields_two (two p q) a b = record { is = changes_two f l p q }

-- a law for each return, over what was read of the body
module _ {firsts body : List ℕ} (k : Known firsts body) (numbers : List ℕ) {rule used first second : ℕ} (is_rule : rule ≡ get_or body 0 0)
    (is_used : used ≡ premise_count rule) (is_first : first ≡ word body 1) (is_second : second ≡ word body 3) where
  pub same_fields : used ≡ 0 → Renumbered (moves firsts numbers) (read_line body) first second
  unfolding read_line
  same_fields e =
      rw (is_first, is_second) (fields_none (moves firsts numbers) (body_uses k is_rule is_used) e)

  pub one_field : used ≡ 1 → Renumbered (moves firsts numbers) (read_line body) (get_or numbers (get_or firsts first 0) 0) second
  unfolding read_line moves
  one_field e =
      rw (is_first, is_second) (fields_one (moves firsts numbers) (body_uses k is_rule is_used) e)

  pub two_fields : (used ≡ 0 → ⊥) → (used ≡ 1 → ⊥)
      → Renumbered (moves firsts numbers) (read_line body) (get_or numbers (get_or firsts first 0) 0) (get_or numbers (get_or firsts second 0) 0)
  unfolding read_line moves
  two_fields a b =
      rw (is_first, is_second) (fields_two (moves firsts numbers) (body_uses k is_rule is_used) a b)

-- ---- one line

unfoldable pub moved_line : (firsts numbers proof : List ℕ) (place : ℕ) → List ℕ
moved_line firsts numbers proof place = line_bytes (with_premises (moves firsts numbers) (read_line (record_body (drop place proof))))

-- a line that can be written: it stands there, and its premises are numbers of lines
pub record Puttable (proof : List ℕ) (place : ℕ) (firsts : List ℕ) : Type 0 where
  pub there : LineThere proof place
  pub known : Known firsts (record_body (drop place proof))

-- head and fields before the key body
line_parts : (body : List ℕ) (rule first second : ℕ) → 5 ≤ length body → is_some (read_key (drop 5 body)) ≡ true
    → line_head (4 + length body) rule first second ++ drop 5 body ≡ line_bytes (record { rule = rule; first = first; second = second; key = key_in (drop 5 body) })
unfolding line_head line_bytes record_bytes word_bytes
line_parts body rule first second h e =
    let size : 4 + length body ≡ 4 + suc (suc (suc (suc (suc (length (drop 5 body)))))) = omega (arith, length-drop 5 body) in
    rw (key_in_written (drop 5 body) e)
    (ap (λ (n : ℕ). (word_bytes n ++ (word_bytes 4 ++ ((rule ∷ []) ++ (word_bytes first ++ word_bytes second)))) ++ drop 5 body) size)

module _ {proof : List ℕ} {place : ℕ} {firsts : List ℕ} (p : Puttable proof place firsts) where
  pub put_size : {body : List ℕ} → body ≡ record_body (drop place proof) → 4 + length body ≡ record_length (drop place proof)
  put_size e =
      let a = p.there.line.long in
      omega (arith, ap length e, body_length (drop place proof) p.there.line.within)

  pub put_known : {body : List ℕ} → body ≡ record_body (drop place proof) → Known firsts body
  put_known e = subst (Known firsts) (sym e) p.known

  pub put_long : {body : List ℕ} → body ≡ record_body (drop place proof) → 5 ≤ length body
  put_long e = (put_known e).long

  pub moved_size : (numbers : List ℕ) → length (moved_line firsts numbers proof place) ≡ record_length (drop place proof)
  unfolding moved_line read_line
  moved_size numbers =
      let body : List ℕ = record_body (drop place proof) in
      let l = put_size {body = body} refl in
      let h = put_long {body = body} refl in
      let k = ap length (key_in_written (drop 5 body) p.there.line.key.shape) in
      line_size (with_premises (moves firsts numbers) (read_line body))
      ∙ (ap (λ (x : Key). 9 + length (key_body x)) (key_stays (moves firsts numbers) (read_line body)) ∙ (omega (arith, length-drop 5 body)))

  pub put_moved : (numbers : List ℕ) {out mid end body : List ℕ} {at rule first second next r : ℕ} → body ≡ record_body (drop place proof) → rule ≡ get_or body 0 0
      → Renumbered (moves firsts numbers) (read_line body) first second → Sized out mid at (line_head (4 + length body) rule first second) 9 next
      → Wrote mid end next (take (length body - 5) (drop 5 body)) r → Wrote out end at (moved_line firsts numbers proof place) r
  unfolding moved_line read_line
  put_moved numbers {body = body} {rule = rule} {first = first} {second = second} e is_rule f h w =
      let shape : is_some (read_key (drop 5 body)) ≡ true =
      ap (λ (b : List ℕ). is_some (read_key (drop 5 b))) e ∙ p.there.line.key.shape in
      let line : with_premises (moves firsts numbers) (read_line body) ≡ record { rule = rule; first = first; second = second; key = key_in (drop 5 body) } =
      f.is ∙ ap (λ (n : ℕ). record { rule = n; first = first; second = second; key = key_in (drop 5 body) }) (sym is_rule) in
      wrote_is
      (ap (λ (l : List ℕ). line_head (4 + length body) rule first second ++ l) (part_to_end body 5) ∙ line_parts body rule first second (put_long e) shape
      ∙ ap line_bytes (sym line)
      ∙ ap (λ (b : List ℕ). line_bytes (with_premises (moves firsts numbers) (read_line b))) e)
      (wrote_more h.wrote w)

-- ---- all of them

unfoldable pub kept_bytes : (proof at firsts : List ℕ) (marks : List Bool) (numbers : List ℕ) → ℕ → List ℕ
kept_bytes proof at firsts marks numbers count =
    flatten (map (λ (n : ℕ). moved_line firsts numbers proof (get_or at n 0)) (keep (λ (m : ℕ). get_or marks m false) (Lists.numbers count 0)))

-- What is written fits, and each line can be written
pub record Writable (out proof at firsts : List ℕ) (marks : List Bool) (numbers : List ℕ) (end : ℕ) : Type 0 where
  pub small : end < 256
  pub each : (n : ℕ) → n ≤ end → Puttable proof (get_or at n 0) firsts
  pub room : length (kept_bytes proof at firsts marks numbers (end + 1)) ≤ length out

module _ (proof at firsts : List ℕ) (marks : List Bool) (numbers : List ℕ) where
  abbrev kept : ℕ → List ℕ
  kept n = kept_bytes proof at firsts marks numbers n

  abbrev line : ℕ → List ℕ
  line n = moved_line firsts numbers proof (get_or at n 0)

  kept_next : (n : ℕ) → kept (suc n) ≡ kept n ++ cond (get_or marks n false) (line n) []
  unfolding kept_bytes flatten
  kept_next n =
      ap (λ (l : List ℕ). flatten (map line l)) (keep_more (λ (m : ℕ). get_or marks m false) n 0)
      ∙ ap (λ (k : ℕ). flatten (map line (keep (λ (m : ℕ). get_or marks m false) (Lists.numbers n 0) ++ cond (get_or marks k false) (k ∷ []) []))) zero_more
      ∙ go (get_or marks n false)
    where
      zero_more : 0 + n ≡ n
      zero_more = omega arith

      go : (b : Bool) → flatten (map line (keep (λ (m : ℕ). get_or marks m false) (Lists.numbers n 0) ++ cond b (n ∷ []) []))
          ≡ flatten (map line (keep (λ (m : ℕ). get_or marks m false) (Lists.numbers n 0))) ++ cond b (line n) []
      go true = flat_more line (keep (λ (m : ℕ). get_or marks m false) (Lists.numbers n 0)) n
      go false =
          ap (λ (l : List ℕ). flatten (map line l)) (append-nil (keep (λ (m : ℕ). get_or marks m false) (Lists.numbers n 0)))
          ∙ sym (append-nil (flatten (map line (keep (λ (m : ℕ). get_or marks m false) (Lists.numbers n 0)))))

  kept_marked : (n : ℕ) → get_or marks n false ≡ true → kept (suc n) ≡ kept n ++ line n
  kept_marked n e = kept_next n ∙ ap (λ (b : Bool). kept n ++ cond b (line n) []) e

  kept_unmarked : (n : ℕ) → get_or marks n false ≡ false → kept (suc n) ≡ kept n
  kept_unmarked n e = kept_next n ∙ ap (λ (b : Bool). kept n ++ cond b (line n) []) e ∙ append-nil (kept n)

  kept_grows : (n m : ℕ) → n ≤ m → length (kept n) ≤ length (kept m)
  kept_grows n zero h = let e : n ≡ 0 = omega arith in subst (λ (k : ℕ). length (kept k) ≤ length (kept 0)) (sym e) (omega arith)
  kept_grows n (suc m) h = go (eq-or-lt_of_le h) (λ l. kept_grows n m l)
    where
      go : (n ≡ suc m) ⊎ (n < suc m) → (n ≤ m → length (kept n) ≤ length (kept m)) → length (kept n) ≤ length (kept (suc m))
      go (inl e) more = subst (λ (k : ℕ). length (kept k) ≤ length (kept (suc m))) (sym e) (omega arith)
      go (inr l) more =
          let a = more (le_of_suc-le-suc l) in
          omega (arith, ap length (kept_next m), length-append (kept m) (cond (get_or marks m false) (line m) []))

-- The loop: the lines before n that stay are written
module _ {out proof at firsts : List ℕ} {marks : List Bool} {numbers : List ℕ} {end : ℕ} (w : Writable out proof at firsts marks numbers end) where
  pub puts_start : Wrote out out 0 (kept_bytes proof at firsts marks numbers 0) 0
  unfolding kept_bytes keep Lists.numbers flatten
  puts_start = wrote_none out 0 (omega arith)

  module _ (n : ℕ) {mid : List ℕ} {next : ℕ} (o : Wrote out mid 0 (kept_bytes proof at firsts marks numbers n) next) where
    pub puts_room : n ≤ end → get_or marks n false ≡ true → next + record_length (drop (get_or at n 0) proof) ≤ length mid
    puts_room h e =
        let s = moved_size (w.each n h) numbers in
        let g = kept_grows proof at firsts marks numbers (suc n) (end + 1) (omega arith) in
        let r = w.room in
        let a = o.after in
        let k = o.kept in
        omega (
          arith,
          ap length (kept_marked proof at firsts marks numbers n e),
          length-append (kept_bytes proof at firsts marks numbers n) (moved_line firsts numbers proof (get_or at n 0)),
        )

    pub puts_skip : get_or marks n false ≡ false → Wrote out mid 0 (kept_bytes proof at firsts marks numbers (n + 1)) next
    puts_skip e = rw add-one (wrote_is (sym (kept_unmarked proof at firsts marks numbers n e)) o)

    pub puts_next : get_or marks n false ≡ true → {after : List ℕ} {r : ℕ} → Wrote mid after next (moved_line firsts numbers proof (get_or at n 0)) r
        → Wrote out after 0 (kept_bytes proof at firsts marks numbers (n + 1)) r
    puts_next e v = rw add-one (wrote_is (sym (kept_marked proof at firsts marks numbers n e)) (wrote_more o v))

    pub puts_end : n ≤ end + 1 → end < n → Wrote out mid 0 (kept_bytes proof at firsts marks numbers (end + 1)) next
    puts_end a b =
        let e : n ≡ end + 1 = omega arith in
        subst (λ (m : ℕ). Wrote out mid 0 (kept_bytes proof at firsts marks numbers m) next) e o

-- the same buffer and place, otherwise named
pub wrote_there : {out mid end v : List ℕ} {at next r : ℕ} → mid ≡ end → next ≡ r → Wrote out mid at v next → Wrote out end at v r
wrote_there {out} {end = end} {v} {at} {next} e f w = subst (Wrote out end at v) f (subst (λ (l : List ℕ). Wrote out l at v next) e w)
