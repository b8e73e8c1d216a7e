-- One law for each step of the writers.
use Rattle.std.specs.Prelude.{ℕ, suc, ◌+◌, ◌-◌, ◌*◌, ◌%◌, ◌/◌, ◌≤◌, ◌<◌, ◌≡◌, refl, Bool, true, false, length, get_or, take, drop}
use Rattle.std.proofs.Common.{sym, ap₂, ◌∙◌, length-append, length-drop, eq-eqb, ne_eqb, lt-ltb, le-ltb}
use Rattle.std.proofs.Math.Path.{ap}
use mathlib.Core.List.{List, [], ◌∷◌, ◌++◌, map, flatten, append-nil}
use native.Mathlib.Omega.{arith}
use Rattle.std.proofs.lemmas.List.{length-map}
use Rattle.std.specs.Int.{w16, w32, to_le_bytes}
use borrow.Author.Rules.{part_to_end}
use borrow.Rule.Slice.PartMut.{put_mid}
use Rattle.meaning.specs.Lists.{numbers}
use Rattle.meaning.specs.Paths.{Class, is_element}
use Rattle.meaning.specs.Trees.{Node}
use Rattle.meaning.specs.Records.{node_bytes, record_bytes, word_bytes, value_bytes, number_bytes}
use Rattle.write_pattern.specs.declared.Drawing.{Drawing}
use Rattle.write_bytes.specs.Wrote.{Wrote, wrote_more, wrote_is, wrote_front}
use Rattle.write_pattern.specs.declared.Entry.{Entry}
use Rattle.write_pattern.specs.Sketch.{dressed, no_entry, entry_at, Sized}
use Rattle.write_pattern.specs.Entries.{numbers_more}
use Rattle.write_tree.specs.Standing.{flatten_append}
use Rattle.write_tree.specs.Front.{Front, front_none, front_more, front_length, front_same}
use Rattle.write_tree.specs.Written.{parent_of, value_of, node_from, copy_bytes, Copying, Copied}
use Rattle.theory_lists.specs.Lists.{map_append, numbers_length}

-- the parent
pub parent_root : (above cut shift x : ℕ) → x ≡ 0 → 65535 ≡ parent_of above cut shift x
unfolding parent_of
parent_root above cut shift x e = rw (eq-eqb x 0 e)

pub parent_trunk : (above cut shift x : ℕ) → (x ≡ 0 → ⊥) → above < cut → above ≡ parent_of above cut shift x
unfolding parent_of
parent_trunk above cut shift x e h = rw (ne_eqb x 0 e, lt-ltb above cut h)

pub parent_copy : (above cut shift x : ℕ) → (x ≡ 0 → ⊥) → cut ≤ above → above + shift ≡ parent_of above cut shift x
unfolding parent_of
parent_copy above cut shift x e h = rw (ne_eqb x 0 e, le-ltb above cut h)

-- the value
pub value_element : (element mark : Bool) (shift x : ℕ) → element ≡ true → 0 ≡ value_of element mark shift x
unfolding value_of
value_element element mark shift x e = rw e

pub value_twin : (element mark : Bool) (shift x : ℕ) → element ≡ false → mark ≡ true → x ≡ value_of element mark shift x
unfolding value_of
value_twin element mark shift x e f = rw (e, f)

pub value_own : (element mark : Bool) (shift x : ℕ) → element ≡ false → mark ≡ false → x + shift ≡ value_of element mark shift x
unfolding value_of
value_own element mark shift x e f = rw (e, f)

node_length : (n : Node) → length (node_bytes 5 n) ≡ 11
unfolding node_bytes record_bytes word_bytes value_bytes number_bytes
node_length n = refl

-- the two numbers as the library writes their bytes
parent_bytes : (n : ℕ) → to_le_bytes w16 (n % 65536) ≡ word_bytes n
unfolding word_bytes
parent_bytes n = ap₂ (λ (a b : ℕ). a ∷ b ∷ []) (omega arith) (omega arith)

own_bytes : (n : ℕ) → to_le_bytes w32 (n % 4294967296) ≡ number_bytes 4 n
unfolding number_bytes
own_bytes n =
    let a : n % 4294967296 % 256 ≡ n % 256 = omega arith in
    let b : n % 4294967296 / 256 % 256 ≡ n / 256 % 256 = omega arith in
    let c : n % 4294967296 / 65536 % 256 ≡ n / 256 / 256 % 256 = omega arith in
    let d : n % 4294967296 / 16777216 % 256 ≡ n / 256 / 256 / 256 % 256 = omega arith in
    cc

-- four writings make the record
pub node_stored : {o a b c d : List ℕ} {p q r s : ℕ} (n : Node) → Wrote o a 0 (11 ∷ 0 ∷ 5 ∷ 0 ∷ []) p → Wrote a b p (to_le_bytes w16 (n.parent % 65536)) q
    → Wrote b c q (n.label ∷ []) r → Wrote c d r (to_le_bytes w32 (n.value % 4294967296)) s → Front o d (node_bytes 5 n)
unfolding node_bytes record_bytes value_bytes word_bytes number_bytes
node_stored {o} n w v u t =
    let whole = wrote_more w (wrote_more (wrote_is (parent_bytes n.parent) v) (wrote_more u (wrote_is (own_bytes n.value) t))) in
    record { fits = whole.room; is = (wrote_front whole).1 }

-- one node of a copy
pub node_written : (κ : ℕ → Class) (d : Drawing) (cut shift x : ℕ) {before after : List ℕ} {e : Entry} {above label parent value : ℕ} {element : Bool}
    → e ≡ get_or d.entries x no_entry → above ≡ e.parent → label ≡ e.label → element ≡ is_element (κ label)
    → parent ≡ parent_of above cut shift x → value ≡ value_of element e.mark shift x
    → Front before after (node_bytes 5 (record { parent = parent; label = e.label; value = value }))
    → Front before after (node_bytes 5 (node_from κ cut shift x (entry_at d x)))
unfolding node_from entry_at dressed
node_written κ d cut shift x {e = e} a l m t p v f =
    front_same
    (ap₂ (λ (q w : ℕ). node_bytes 5 (record { parent = q; label = e.label; value = w }))
    (p ∙ ap (λ (k : ℕ). parent_of k cut shift x) l)
    (v ∙ ap (λ (b : Bool). value_of b e.mark shift x) (t ∙ ap (λ (k : ℕ). is_element (κ k)) m))
    ∙ ap (λ (y : Entry). node_bytes 5 (record { parent = parent_of y.parent cut shift x; label = y.label; value = value_of (is_element (κ y.label)) y.mark shift x })) a)
    f

-- the bytes of a copy
pub nodes_more : (f : ℕ → Node) (xs ys : List ℕ) → flatten (map (node_bytes 5) (map f (xs ++ ys))) ≡ flatten (map (node_bytes 5) (map f xs)) ++ flatten (map (node_bytes 5) (map f ys))
nodes_more f xs ys =
    ap (λ (l : List Node). flatten (map (node_bytes 5) l)) (map_append f xs ys) ∙ ap flatten (map_append (node_bytes 5) (map f xs) (map f ys))
    ∙ flatten_append (map (node_bytes 5) (map f xs)) (map (node_bytes 5) (map f ys))

nodes_length : (l : List Node) → length (flatten (map (node_bytes 5) l)) ≡ 11 * length l
unfolding flatten
nodes_length [] = refl
nodes_length (n ∷ l) =
    let a = length-append (node_bytes 5 n) (flatten (map (node_bytes 5) l)) in
    let b = node_length n in
    let c = nodes_length l in
    omega arith

module _ (κ : ℕ → Class) (d : Drawing) (cut shift from : ℕ) where
  pub copy_length : (count : ℕ) → length (copy_bytes κ d cut shift from count) ≡ 11 * count
  unfolding copy_bytes
  copy_length count =
      nodes_length (map (λ (x : ℕ). node_from κ cut shift x (entry_at d x)) (numbers count from))
      ∙ ap (λ (k : ℕ). 11 * k) (length-map (numbers count from) (λ (x : ℕ). node_from κ cut shift x (entry_at d x)) ∙ numbers_length count from)

  copy_step : (count : ℕ) → copy_bytes κ d cut shift from (suc count)
      ≡ copy_bytes κ d cut shift from count ++ node_bytes 5 (node_from κ cut shift (from + count) (entry_at d (from + count)))
  unfolding copy_bytes flatten
  copy_step count =
      ap (λ (l : List ℕ). flatten (map (node_bytes 5) (map (λ (x : ℕ). node_from κ cut shift x (entry_at d x)) l))) (numbers_more count from)
      ∙ nodes_more (λ (x : ℕ). node_from κ cut shift x (entry_at d x)) (numbers count from) ((from + count) ∷ [])
      ∙ ap (λ (l : List ℕ). flatten (map (node_bytes 5) (map (λ (x : ℕ). node_from κ cut shift x (entry_at d x)) (numbers count from))) ++ l)
      (append-nil (node_bytes 5 (node_from κ cut shift (from + count) (entry_at d (from + count)))))

module _ {κ : ℕ → Class} {d : Drawing} {cut shift from to : ℕ} where
  pub copied_start : {out : List ℕ} → Copying d from to shift (length out) → Copied κ d cut shift from to out out from
  unfolding copy_bytes numbers flatten
  copied_start {out} h =
      let e : from - from ≡ 0 = omega arith in
      record {
        order = omega arith;
        within = h.order;
        front = front_same (ap (λ (k : ℕ). copy_bytes κ d cut shift from k) (sym e)) (front_none out);
      }

  -- where the next node is written, and that there is room for it
  pub copied_at : {before after : List ℕ} {x : ℕ} → Copied κ d cut shift from to before after x → length (copy_bytes κ d cut shift from (x - from)) ≡ 11 * (x - from)
  copied_at {x = x} c = copy_length κ d cut shift from (x - from)

  pub copied_room : {before after : List ℕ} {x : ℕ} → Copying d from to shift (length before) → Copied κ d cut shift from to before after x → x < to
      → 11 * (x - from) + 11 ≤ length after
  copied_room h c k =
      let a = front_length c.front in
      let b = h.room in
      let o = c.order in
      omega arith

  pub copied_rest : {before after : List ℕ} {x : ℕ} → Copying d from to shift (length before) → Copied κ d cut shift from to before after x → x < to
      → 11 ≤ length (take (length after - 11 * (x - from)) (drop (11 * (x - from)) after))
  copied_rest {after = after} {x} h c k =
      let a = copied_room h c k in
      let b = ap length (part_to_end after (11 * (x - from))) ∙ length-drop (11 * (x - from)) after in
      omega arith

  pub copied_next : {before after ys : List ℕ} {x : ℕ} (at : ℕ) → Copied κ d cut shift from to before after x → x < to → at ≡ 11 * (x - from)
      → Front (take (length after - at) (drop at after)) ys (node_bytes 5 (node_from κ cut shift x (entry_at d x)))
      → Copied κ d cut shift from to before (put_mid at (length after - at) after ys) (x + 1)
  copied_next {x = x} at c k e f =
      let o = c.order in
      let n : x + 1 - from ≡ suc (x - from) = omega arith in
      let y : from + (x - from) ≡ x = omega arith in
      record {
        order = omega arith;
        within = omega arith;
        front =
            front_same
            (sym
            (ap (λ (k : ℕ). copy_bytes κ d cut shift from k) n ∙ copy_step κ d cut shift from (x - from)
            ∙ ap (λ (k : ℕ). copy_bytes κ d cut shift from (x - from) ++ node_bytes 5 (node_from κ cut shift k (entry_at d k))) y))
            (front_more at c.front (e ∙ sym (copied_at c)) f);
      }

  pub copied_end : {before after : List ℕ} {x : ℕ} → Copied κ d cut shift from to before after x → to ≤ x
      → Front before after (copy_bytes κ d cut shift from (to - from))
  copied_end {x = x} c h =
      let w = c.within in
      let e : x - from ≡ to - from = omega arith in
      front_same (ap (λ (k : ℕ). copy_bytes κ d cut shift from k) e) c.front

-- a copy into the rest of the buffer
pub copying_rest : {d : Drawing} {from to shift : ℕ} (at : ℕ) (after : List ℕ) → Sized d → from ≤ to → to ≤ 128 → shift ≤ 128 → at + 11 * (to - from) ≤ length after
    → Copying d from to shift (length (take (length after - at) (drop at after)))
copying_rest {d} {from} {to} {shift} at after s o w m r =
    record {
      sized = s;
      order = o;
      within = w;
      small = m;
      room = let b = ap length (part_to_end after at) ∙ length-drop at after in omega arith;
    }
