-- The asked key's rows in a list of bytes, row j from byte 25 j on: what drawing them asks and what a reader of a row needs.
use Rattle.std.specs.Prelude.{ℕ, suc, ◌+◌, ◌*◌, ◌≤◌, ◌<◌, ◌≡◌, refl, true, List, [], ◌∷◌, ◌++◌, get_or, set, take, drop}
use Rattle.std.proofs.Common.{sym, ap₂, subst, ◌∙◌, arith, length-append, length-drop, drop-cons, add-one, take-append-drop, length-take-le}
use Rattle.std.proofs.Math.Path.{ap}
use Rattle.std.proofs.Math.ListN.{length}
use Rattle.std.proofs.Math.Seq.{slice}
use Rattle.std.proofs.lemmas.List.{drop-append-le}
use borrow.Author.Count.{below_more}
use Rattle.meaning.specs.Keys.{Key}
use Rattle.meaning.specs.Records.{read_key, key_in, is_some, path_bytes}
use Rattle.meaning.specs.Pattern.{t_of}
use Rattle.theory_pattern.specs.Spots.{chain_of, branch_of, row_of}
use Rattle.theory_pattern.specs.Rows.{row_length}
use Rattle.read_record.specs.BodyParts.{holds_path, lead_path}
use Rattle.read_record.specs.PathBytes.{holds_front as read-holds, lead_front as read-lead}
use Rattle.step_rows.specs.Copies.{Copied, Room, copied_one, copied_then, copied_before, copied_there}

-- "a path of 8 symbols and 4 key paths in profile and question"
pub record KeySizes (body : List ℕ) : Type 0 where
  pub is_key : is_some (read_key body) ≡ true
  pub context : length (key_in body).context ≤ 8
  pub target : length (key_in body).target ≤ 8
  pub some : 1 ≤ length (key_in body).paths
  pub few : length (key_in body).paths ≤ 4
  pub short : (j : ℕ) → j < length (key_in body).paths → length (get_or (key_in body).paths j []) ≤ 8

-- what is asked where one row is written
pub record WritesRow (rows body path : List ℕ) (j : ℕ) : Type 0 where
  pub size : length rows ≡ 100
  pub is_key : is_some (read_key body) ≡ true
  pub context : length (key_in body).context ≤ 8
  pub target : length (key_in body).target ≤ 8
  pub short_path : length path ≤ 8
  pub few : j < 4

-- row j of these bytes, and that it stands there whole
unfoldable pub row_in : List ℕ → ℕ → List ℕ
row_in rows j = lead_path (drop (25 * j) rows)

pub record HasRow (rows : List ℕ) (j : ℕ) : Type 0 where
  pub within : 25 * j ≤ length rows
  pub holds : holds_path (drop (25 * j) rows) ≡ true

-- the rows of the asked key are drawn
pub record IsRow (asked : Key) (rows : List ℕ) (j : ℕ) : Type 0 where
  pub has : HasRow rows j
  pub is : row_in rows j ≡ row_of asked j
  pub short : length (row_of asked j) ≤ 24

pub record Drawn (asked : Key) (rows : List ℕ) : Type 0 where
  pub size : length rows ≡ 100
  pub few : length asked.paths ≤ 4
  pub drawn : (j : ℕ) → j < length asked.paths → IsRow asked rows j

-- "length and symbols" of row j stand from byte 25 j on
pub record Stands (asked : Key) (rows : List ℕ) (j : ℕ) : Type 0 where
  pub written : slice (25 * j) (25 * j + length (path_bytes (row_of asked j))) rows ≡ path_bytes (row_of asked j)
  pub short : length (row_of asked j) ≤ 24

behind : (l : List ℕ) (a : ℕ) (w : List ℕ) → a + length w ≤ length l → slice a (a + length w) l ≡ w → drop a l ≡ w ++ drop (a + length w) l
behind l a w h e =
    ap (drop a) (sym (take-append-drop (a + length w) l))
    ∙ drop-append-le a (take (a + length w) l) (drop (a + length w) l) (omega (arith, length-take-le (a + length w) l h))
    ∙ ap (λ (x : List ℕ). x ++ drop (a + length w) l) e

bytes_length : (p : List ℕ) → length (path_bytes p) ≡ suc (length p)
unfolding path_bytes
bytes_length p = refl

pub stands_row : (asked : Key) (rows : List ℕ) (j : ℕ) → length rows ≡ 100 → j < 4 → Stands asked rows j → IsRow asked rows j
unfolding row_in
stands_row asked rows j size few s =
    let row : List ℕ = row_of asked j in
    let n = bytes_length row in
    let e = behind rows (25 * j) (path_bytes row) (omega (arith, s.short)) s.written in
    record {
      has = record { within = omega arith; holds = rw e (read-holds row _) };
      is = rw e (read-lead row _);
      short = s.short;
    }

-- the rows are drawn from the first on, and these key paths are left
pub record Drawing (body : List ℕ) (left : List (List ℕ)) (j : ℕ) (rows : List ℕ) : Type 0 where
  pub asked : KeySizes body
  pub left_is : left ≡ drop j (key_in body).paths
  pub size : length rows ≡ 100
  pub drawn : (i : ℕ) → i < j → Stands (key_in body) rows i

pub drawing_start : {body : List ℕ} {left : List (List ℕ)} {j : ℕ} {rows : List ℕ} → KeySizes body → left ≡ (key_in body).paths → j ≡ 0
    → length rows ≡ 100 → Drawing body left j rows
drawing_start a e z s = record { asked = a; left_is = rw z e; size = s; drawn = λ i h. absurd (omega arith) }

module _ {body : List ℕ} {left : List (List ℕ)} {j : ℕ} {rows : List ℕ} (d : Drawing body left j rows) {path : List ℕ} {rest : List (List ℕ)}
    (e : left ≡ path ∷ rest) where
  here : j < length (key_in body).paths
  here = omega (arith, length-drop j (key_in body).paths, ap length (sym d.left_is ∙ e))

  split : path ∷ rest ≡ get_or (key_in body).paths j [] ∷ drop (suc j) (key_in body).paths
  split = sym e ∙ d.left_is ∙ drop-cons (key_in body).paths j [] here

  is_branch : path ≡ branch_of (key_in body) j
  unfolding branch_of
  is_branch = let q = split in cc

  is_short : length path ≤ 8
  is_short = let q : path ≡ get_or (key_in body).paths j [] = (let q = split in cc) in omega (arith, d.asked.short j here, ap length q)

  few : j < 4
  few = let f = d.asked.few in omega (arith, here)

  pub drawing_writes : {k : ℕ} → k ≡ j → WritesRow rows body path k
  drawing_writes q =
      record {
        size = d.size;
        is_key = d.asked.is_key;
        context = d.asked.context;
        target = d.asked.target;
        short_path = is_short;
        few = omega (arith, few);
      }

  row_short : length (row_of (key_in body) j) ≤ 24
  unfolding t_of
  row_short =
      omega (arith, row_length (key_in body) j, ap length is_branch, is_short, d.asked.context, d.asked.target)

  pub drawing_more : {k : ℕ} → k ≡ j → {new : List ℕ} → Copied rows (25 * k) (path_bytes (chain_of (key_in body) ++ path)) new → {next : ℕ} → next ≡ j + 1
      → Drawing body rest next new
  unfolding row_of
  drawing_more {k} q {new} c {next} n =
      rw n
      (record {
        asked = d.asked;
        left_is = rw add-one (let q = split in cc);
        size = copy.size ∙ d.size;
        drawn = below_more _ j (λ i k. kept i k (d.drawn i k)) last;
      })
    where
      copy : Copied rows (25 * j) (path_bytes (chain_of (key_in body) ++ path)) new
      copy = subst (λ (m : ℕ). Copied rows (25 * m) (path_bytes (chain_of (key_in body) ++ path)) new) q c

      room : 25 * j ≤ length rows
      room = let s = d.size in omega (arith, few)

      same_row : path_bytes (chain_of (key_in body) ++ path) ≡ path_bytes (row_of (key_in body) j)
      same_row = ap (λ (q : List ℕ). path_bytes (chain_of (key_in body) ++ q)) is_branch

      last : Stands (key_in body) new j
      last = record { written = subst (λ (w : List ℕ). slice (25 * j) (25 * j + length w) new ≡ w) same_row (copied_there copy room); short = row_short }

      kept : (i : ℕ) → i < j → Stands (key_in body) rows i → Stands (key_in body) new i
      kept i k s =
          record {
            written =
                ap (drop (25 * i)) (copied_before copy room (25 * i + length (path_bytes (row_of (key_in body) i))) (let b = bytes_length (row_of (key_in body) i) in let q = s.short in omega arith))
                ∙ s.written;
            short = s.short;
          }

pub drawing_end : {body : List ℕ} {left : List (List ℕ)} {j : ℕ} {rows : List ℕ} → Drawing body left j rows → left ≡ [] → Drawn (key_in body) rows
drawing_end {body} {left} {j} {rows} d e =
    let f = d.asked.few in
    record {
      size = d.size;
      few = f;
      drawn =
          λ i k.
          stands_row (key_in body) rows i d.size (omega arith)
          (d.drawn i (omega (arith, length-drop j (key_in body).paths, ap length (sym d.left_is ∙ e))));
    }

-- a row from its length, C, T and the key path
pub row_written : {old : List ℕ} {at : ℕ} {c t path one two three four : List ℕ} (asked : Key) → c ≡ asked.context → t ≡ asked.target
    → {v : ℕ} → v ≡ length c + length t + length path → Copied old at (v ∷ []) one → Copied one (at + 1) c two
    → Copied two (at + 1 + length c) t three → Copied three (at + 1 + (length c + length t)) path four
    → Copied old at (path_bytes (chain_of asked ++ path)) four
unfolding chain_of path_bytes
row_written {old} {at} {c} {t} {path} {one} {two} {three} {four} asked p q {v} n w x y z =
    subst (λ (l : List ℕ). Copied old at l four) whole
    (copied_then (copied_then (copied_then w refl x) (omega arith) y) (omega (arith, length-append c t)) z)
  where
    chain : (c ++ t) ++ path ≡ (asked.context ++ asked.target) ++ path
    chain = ap₂ (λ (a b : List ℕ). (a ++ b) ++ path) p q

    counted : v ≡ length ((asked.context ++ asked.target) ++ path)
    counted = omega (arith, length-append c t, length-append (c ++ t) path, ap length chain)

    whole : (((v ∷ []) ++ c) ++ t) ++ path ≡ length ((asked.context ++ asked.target) ++ path) ∷ ((asked.context ++ asked.target) ++ path)
    whole = ap₂ (λ (a : ℕ) (l : List ℕ). a ∷ l) counted chain

-- the calls of one row's writing
module _ {rows body path : List ℕ} {j : ℕ} (w : WritesRow rows body path j) {c t : List ℕ} (p : c ≡ (key_in body).context) (q : t ≡ (key_in body).target) where
  pub parts_short : (length c ≤ 8) × (length t ≤ 8)
  parts_short = (omega (arith, w.context, ap length p), omega (arith, w.target, ap length q))

  module _ (v : ℕ) where
    begun : Copied rows (25 * j) (v ∷ []) (set rows (25 * j) v)
    begun = copied_one rows (25 * j) v (omega (arith, w.size, w.few))

    pub room_context : Room (set rows (25 * j) v) (25 * j + 1) c
    room_context = record { size = begun.size ∙ w.size; fits = omega (arith, w.few, parts_short) }

    module _ {two : List ℕ} (x : Copied (set rows (25 * j) v) (25 * j + 1) c two) where
      pub room_target : Room two (25 * j + 1 + length c) t
      room_target = record { size = x.size ∙ begun.size ∙ w.size; fits = omega (arith, w.few, parts_short) }

      module _ {three : List ℕ} (y : Copied two (25 * j + 1 + length c) t three) where
        pub room_path : Room three (25 * j + 1 + (length c + length t)) path
        room_path =
            record { size = y.size ∙ x.size ∙ begun.size ∙ w.size; fits = omega (arith, w.few, w.short_path, parts_short) }

        pub write_all : v ≡ length c + length t + length path → {four : List ℕ} → Copied three (25 * j + 1 + (length c + length t)) path four
            → Copied rows (25 * j) (path_bytes (chain_of (key_in body) ++ path)) four
        write_all n z = row_written (key_in body) p q n begun x y z

-- what a reader of the rows has
module _ {asked : Key} {rows : List ℕ} (d : Drawn asked rows) {j : ℕ} (h : j < length asked.paths) where
  pub drawn_has : HasRow rows j
  drawn_has = (d.drawn j h).has

  pub drawn_is : {r : List ℕ} → r ≡ row_in rows j → r ≡ row_of asked j
  drawn_is e = e ∙ (d.drawn j h).is
