-- Where bodies end: what the code's tests say, return by return.
use Rattle.std.specs.Prelude.{ℕ, zero, suc, ◌+◌, ◌-◌, ◌<◌, ◌≤◌, ◌≡◌, refl, Bool, true, false, not, List, [], ◌∷◌, leb, eqb, length, get_or, take, drop}
use Rattle.std.proofs.Math.Path.{sym, ap}
use Rattle.std.proofs.Common.{◌∙◌, add-one, sub-one, arith, take_all}
use Rattle.std.proofs.Math.Dec.{eqb-suc-zero}
use borrow.Author.Rules.{part_to_end}
use borrow.Author.Tests.{le-leb, lt-leb, ne_eqb, leb-true, not-true, not-false}
use Rattle.meaning.specs.Lists.{is_empty}
use Rattle.meaning.specs.Records.{word, record_length, record_kind, record_body, read_key, is_some, value_bytes, body_ends}
use Rattle.meaning.specs.Refusals.{whole}
use Rattle.read_record.specs.BodyParts.{holds_path, lead_path, after_path, paths_end, set_ends, set_in, key_ends, is_some_parts}

pub holds_empty : (l : List ℕ) → length l ≡ 0 → false ≡ holds_path l
unfolding holds_path
holds_empty [] e = refl
holds_empty (n ∷ l) e = absurd (omega arith)

pub holds_length : (l : List ℕ) → (length l ≡ 0 → ⊥) → {n : ℕ} → n ≡ get_or l 0 0 → leb n (length l - 1) ≡ holds_path l
unfolding holds_path
holds_length [] h e = absurd (h refl)
holds_length (m ∷ l) h e = rw (e, sub-one)

-- a path that stands whole at the front fits
pub path_fits : (l : List ℕ) → holds_path l ≡ true → get_or l 0 0 + 1 ≤ length l
unfolding holds_path
path_fits [] e = absurd (let z : ◌≡◌ {A = ℕ} 0 1 = cc in omega arith)
path_fits (n ∷ l) e = omega (arith, leb-true n (length l) e)

pub lead_part : (l : List ℕ) → holds_path l ≡ true → {n : ℕ} → n ≡ get_or l 0 0 → take (n + 1 - 1) (drop 1 l) ≡ lead_path l
unfolding holds_path lead_path
lead_part [] e h = absurd (let z : ◌≡◌ {A = ℕ} 0 1 = cc in omega arith)
lead_part (m ∷ l) e {n} h = let k : n + 1 - 1 ≡ m = omega arith in rw k

pub after_part : (l : List ℕ) → holds_path l ≡ true → {n : ℕ} → n ≡ get_or l 0 0 → take (length l - (n + 1)) (drop (n + 1) l) ≡ after_path l
unfolding holds_path after_path
after_part [] e h = absurd (let z : ◌≡◌ {A = ℕ} 0 1 = cc in omega arith)
after_part (m ∷ l) e {n} h = part_to_end (m ∷ l) (n + 1) ∙ (rw (h, add-one))

-- So many paths are left to pass; w is what is asked of the whole.
pub record Ends (left : ℕ) (rest : List ℕ) (w : Bool) : Type 0 where
  pub here : paths_end left rest ≡ w

pub ends_start : {left : ℕ} (count : ℕ) (rest : List ℕ) → left ≡ count → Ends left rest (paths_end count rest)
ends_start count rest e = rw e (record { here = refl })

pub ends_next : (left : ℕ) (rest : List ℕ) {w : Bool} → Ends left rest w → 0 < left → {r : Bool} → r ≡ holds_path rest → not r ≡ false
    → {fewer : ℕ} → fewer ≡ left - 1 → {next : List ℕ} → next ≡ after_path rest → Ends fewer next w
unfolding paths_end
ends_next zero rest e h s t f n = absurd (omega arith)
ends_next (suc left) rest e h s t f n = record { here = rw (f, sub-one, n) (rw (sym s ∙ not-false _ t) at e.here) }

pub ends_stop : (left : ℕ) (rest : List ℕ) {w : Bool} → Ends left rest w → 0 < left → {r : Bool} → r ≡ holds_path rest → not r ≡ true → false ≡ w
unfolding paths_end
ends_stop zero rest e h s t = absurd (omega arith)
ends_stop (suc left) rest e h s t = rw (sym s ∙ not-true _ t) at e.here

pub ends_done : (left : ℕ) (rest : List ℕ) {w : Bool} → Ends left rest w → left ≤ 0 → eqb (length rest) 0 ≡ w
unfolding paths_end is_empty
ends_done zero [] e h = e.here
ends_done zero (b ∷ rest) e h = eqb-suc-zero (length rest) ∙ e.here
ends_done (suc left) rest e h = absurd (omega arith)

module _ (body : List ℕ) where
  pub key_context : {r : Bool} → r ≡ holds_path body → not r ≡ true → false ≡ is_some (read_key body)
  unfolding key_ends
  key_context s t = rw (is_some_parts body, sym s ∙ not-true _ t)

  pub key_target : holds_path body ≡ true → {behind : List ℕ} → behind ≡ after_path body → {r : Bool} → r ≡ holds_path behind → not r ≡ true
      → false ≡ is_some (read_key body)
  unfolding key_ends
  key_target e a s t = rw (is_some_parts body, e, sym (s ∙ ap holds_path a) ∙ not-true _ t)

  pub key_set : holds_path body ≡ true → {behind : List ℕ} → behind ≡ after_path body → holds_path behind ≡ true
      → {set : List ℕ} → set ≡ after_path behind → set_ends set ≡ is_some (read_key body)
  unfolding key_ends set_in
  key_set e a t b = rw (is_some_parts body, e, b, a, ap holds_path (sym a) ∙ t)

pub set_empty : (set : List ℕ) → length set ≡ 0 → false ≡ set_ends set
unfolding set_ends
set_empty [] e = refl
set_empty (n ∷ l) e = absurd (omega arith)

pub set_counted : (set : List ℕ) → (length set ≡ 0 → ⊥) → {n : ℕ} → n ≡ get_or set 0 0 → paths_end n (take (length set - 1) (drop 1 set)) ≡ set_ends set
unfolding set_ends
set_counted [] h e = absurd (h refl)
set_counted (m ∷ l) h e = rw (e, sub-one, take_all (length l) l (omega arith))

module _ (kind : ℕ) (body : List ℕ) where
  pub ends_label : kind ≡ 1 → leb 2 (length body) ≡ body_ends kind body
  unfolding body_ends
  ends_label e = rw e

  pub ends_key : kind ≡ 2 → {r : Bool} → r ≡ is_some (read_key body) → r ≡ body_ends kind body
  unfolding body_ends
  ends_key e h = rw (e, h)

  pub ends_node : kind ≡ 3 → eqb (length body) 5 ≡ body_ends kind body
  unfolding body_ends value_bytes
  ends_node e = rw e

  pub ends_wide : kind ≡ 5 → eqb (length body) 7 ≡ body_ends kind body
  unfolding body_ends value_bytes
  ends_wide e = rw e

  pub ends_line_short : kind ≡ 4 → length body < 5 → false ≡ body_ends kind body
  unfolding body_ends
  ends_line_short e h = rw (e, lt-leb 5 (length body) h)

  pub ends_line : kind ≡ 4 → 5 ≤ length body → {r : Bool} → r ≡ is_some (read_key (take (length body - 5) (drop 5 body))) → r ≡ body_ends kind body
  unfolding body_ends
  ends_line e h k = rw (e, le-leb 5 (length body) h, k, part_to_end body 5)

  pub ends_edition : kind ≡ 6 → eqb (length body) 1 ≡ body_ends kind body
  unfolding body_ends
  ends_edition e = rw e

  pub ends_unknown : (kind ≡ 1 → ⊥) → (kind ≡ 2 → ⊥) → (kind ≡ 3 → ⊥) → (kind ≡ 5 → ⊥) → (kind ≡ 4 → ⊥) → (kind ≡ 6 → ⊥) → true ≡ body_ends kind body
  unfolding body_ends
  ends_unknown a b c w d e = rw (ne_eqb kind 1 a, ne_eqb kind 2 b, ne_eqb kind 3 c, ne_eqb kind 5 w, ne_eqb kind 4 d, ne_eqb kind 6 e)

module _ (l : List ℕ) where
  pub whole_head : length l < 4 → false ≡ whole l
  unfolding whole
  whole_head h = rw (lt-leb 4 (length l) h)

  pub whole_under : 4 ≤ length l → word l 0 < 4 → false ≡ whole l
  unfolding whole record_length
  whole_under h k = rw (le-leb 4 (length l) h, lt-leb 4 (word l 0) k)

  pub whole_past : 4 ≤ length l → 4 ≤ word l 0 → length l < word l 0 → false ≡ whole l
  unfolding whole record_length
  whole_past h k p = rw (le-leb 4 (length l) h, le-leb 4 (word l 0) k, lt-leb (word l 0) (length l) p)

  pub whole_body : {end : ℕ} → end ≡ word l 0 → {kind : ℕ} → kind ≡ word l 2 → 4 ≤ length l → 4 ≤ end → end ≤ length l
      → {r : Bool} → r ≡ body_ends kind (take (end - 4) (drop 4 l)) → r ≡ whole l
  unfolding whole record_length record_kind record_body
  whole_body e k h u p s =
      rw (s, e, k, le-leb 4 (length l) h, le-leb 4 (word l 0) (omega arith), le-leb (word l 0) (length l) (omega arith))
